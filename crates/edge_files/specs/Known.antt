-- What is known of the length of a file, in bytes: none where there was no file.
use Rattle.std.specs.Prelude.{◌≡◌, ◌⊎◌, ◌≤◌, ◌+◌, ◌-◌, ◌^◌, ℕ, min, Option, unwrap_or}
use Rattle.edge_model.specs.declared.role.Role.{Role}
use Rattle.edge_model.specs.declared.role.Role.TheVariants.{Main, Journal, Fresh}

-- A read that answers with fewer bytes than were asked for does not end before the length that is known.
abbrev pub IsWhole : Option ℕ → ℕ → ℕ → ℕ → Type 0
IsWhole known at asked count = (count ≡ asked) ⊎ (unwrap_or known 0 ≤ at + count)

-- where so many bytes behind an offset end, and at most the greatest offset
abbrev pub end_of : ℕ → ℕ → ℕ
end_of at count = min (at + count) (2 ^ 64 - 1)

-- what the role has of the three
abbrev pub of_role : {A : Type 0} → Role → A → A → A → A
of_role Main main journal fresh = main
of_role Journal main journal fresh = journal
of_role Fresh main journal fresh = fresh
