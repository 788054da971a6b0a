-- The end of a transaction.
use Rattle.std.proofs.Common.{◌≡◌, ℕ, ◌*◌, ◌<◌, ◌≤◌, arith}
use Rattle.std.proofs.Math.Nat.{mul-le-mul_right}
use Rattle.cipher_profile.specs.Profile.{IsListed}
use Rattle.cipher_profile.specs.declared.profile.Profile.{Profile}
use Rattle.cipher_profile.proofs.Layouts.{IsListed-laid_out}
use Rattle.atomic_commit.specs.Commit.{AreChanges}
use Rattle.pager.specs.Changed.{Changed, IsListing}

pub are_changes : (c : Changed) (pages : ℕ) → IsListing c → c.pages ≡ pages → 0 < pages → AreChanges pages c.numbers
are_changes c pages listing same some = record {
  few = omega (arith, listing.within, listing.few, same, some);
  in_range = λ k less. ((listing.in_range k less).0, omega (arith, (listing.in_range k less).1, same));
  apart = listing.apart;
}

-- what was drawn for all frames is enough for those that hold a page
pub room_enough : (count frames reserve len : ℕ) → count ≤ frames → len ≡ frames * reserve → count * reserve ≤ len
room_enough count frames reserve len few long =
    let less : count * reserve ≤ frames * reserve = mul-le-mul_right reserve few in
    omega (arith, less, long)

pub listed_small : (p : Profile) → IsListed p → p.page_size ≤ 65536
listed_small p listed = (IsListed-laid_out p listed).most
