-- The overflow pages of one payload, page by page.
use Rattle.std.proofs.Common.{rules, ◌<◌, ◌≡◌, ◌≤◌, ◌-◌, ◌+◌, ◌/◌, ℕ, zero, suc, Bool, true, false, List, ◌++◌, length, take, drop, refl, ap, sym, ◌∙◌, append_assoc}
use Rattle.std.specs.Prelude.{ℤ, None, nat_le, if◌then◌else◌}
use Rattle.std.proofs.lemmas.List.{append-nil}
use Rattle.db_format.specs.Bytes.{u32_at}
use Rattle.db_format.specs.Pages.{Pages}
use Rattle.db_format.specs.Record.{columns}
use Rattle.btree_page.specs.Cell.{StoredCell}
use Rattle.btree_model.specs.Range.{is_in_range}
use Rattle.btree_model.specs.Walk.{chain_bytes, links_needed, payload_of}
use Rattle.salvage_scan.specs.Salvage.{is_chain, is_whole_cell, payload_line, row_line}
use Rattle.salvage_scan.specs.Chain.{IsChainFollowed, IsOnPayloadChain, IsPayloadRead}

module _ (pages : Pages) (needed first : ℕ) (local : List ℕ) where
  pub chain_start : IsOnPayloadChain pages needed first needed first local local
  chain_start = record { there = refl; bytes = refl }

  -- none is left
  pub chain_done : (n : ℕ) (got : List ℕ) → IsOnPayloadChain pages needed first zero n local got → IsChainFollowed pages needed first local true got
  chain_done n got at = record { is = sym at.there; bytes = λ there. sym (at.bytes ∙ append-nil got) }

  module _ (left n : ℕ) (got : List ℕ) (at : IsOnPayloadChain pages needed first (suc left) n local got) where
    -- the next number is that of no page
    pub chain_out : is_in_range pages n ≡ false → IsChainFollowed pages needed first local false got
    chain_out out = record { is = sym (at.there ∙ rw out refl); bytes = λ there. cc }

    module _ (range : is_in_range pages n ≡ true) where
      -- the next page is not accepted
      pub chain_refused : pages.accepts n ≡ false → IsChainFollowed pages needed first local false got
      chain_refused refused = record { is = sym (at.there ∙ rw (range, refused) refl); bytes = λ there. cc }

      pub chain_next : pages.accepts n ≡ true → IsOnPayloadChain pages needed first left (u32_at (pages.page n) 0) local (got ++ drop 4 (pages.page n))
      chain_next accepted =
          record {
            there = at.there ∙ rw (range, accepted) refl;
            bytes = at.bytes ∙ sym (append_assoc got (drop 4 (pages.page n)) (chain_bytes pages left (u32_at (pages.page n) 0)));
          }

pub fits_is : (a b : ℕ) → a ≤ b → nat_le a b ≡ true
fits_is a b within = search (rules, within)

pub long_is : (a b : ℕ) → b < a → nat_le a b ≡ false
long_is a b past = search (rules, past)

-- how many pages a payload needs, as it is reckoned
pub links_are : (u usable size have missing : ℕ) (local : List ℕ) (first : ℕ) → usable ≡ u → have ≡ length local → missing ≡ size - have
    → links_needed u (record { size = size; local = local; first = first }) ≡ (missing + (usable - 5)) / (usable - 4)
links_are u usable size have missing local first same long less =
    ap (λ v. (size - length local + (v - 5)) / (v - 4)) (sym same) ∙ ap (λ m. (m + (usable - 5)) / (usable - 4)) (ap (λ h. size - h) (sym long) ∙ sym less)

-- a payload that needs so many pages
module _ (pages : Pages) (stored : StoredCell) (needed : ℕ) (count : links_needed pages.usable stored ≡ needed) where
  pub payload_long : (got : List ℕ) → nat_le needed pages.count ≡ false → IsPayloadRead pages stored false got
  payload_long got more = record { is = sym (rw (count, more) refl); bytes = λ whole. cc }

  module _ (fits : nat_le needed pages.count ≡ true) where
    whole_is : is_whole_cell pages stored ≡ is_chain pages needed stored.first
    whole_is = rw (count, fits) refl

    pub payload_cut : (got : List ℕ) → IsChainFollowed pages needed stored.first stored.local false got → IsPayloadRead pages stored false got
    payload_cut got at = record { is = at.is ∙ sym whole_is; bytes = λ whole. cc }

    pub payload_read : (got : List ℕ) → IsChainFollowed pages needed stored.first stored.local true got → IsPayloadRead pages stored true (take stored.size got)
    payload_read got at =
        record {
          is = at.is ∙ sym whole_is;
          bytes = λ whole. ap (take stored.size) (at.bytes refl ∙ ap (λ k. stored.local ++ chain_bytes pages k stored.first) (sym count));
        }

-- the line of a row whose payload was read
pub payload_line_is : (pages : Pages) (n : ℕ) (rowid : ℤ) (stored : StoredCell) (whole : Bool) (got : List ℕ) → IsPayloadRead pages stored whole got
    → row_line n rowid (if whole then columns got else None) ≡ payload_line pages n rowid stored
payload_line_is pages n rowid stored true got at =
    ap (λ p. row_line n rowid (columns p)) (at.bytes refl) ∙ ap (λ b. row_line n rowid (if b then columns (payload_of pages stored) else None)) at.is
payload_line_is pages n rowid stored false got at = ap (λ b. row_line n rowid (if b then columns (payload_of pages stored) else None)) at.is
