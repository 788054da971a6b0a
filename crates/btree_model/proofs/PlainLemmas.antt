-- The parts of a database rest on its pages with zeros for leaves of the freelist, and on which pages in use are accepted.
use Rattle.std.proofs.Common.{◌≡◌, ℕ, ◌==◌, Bool, true, false, List, [], if◌then◌else◌, refl, ap, sym, ◌∙◌}
use Rattle.std.specs.Prelude.{replicate}
use Rattle.std.specs.List.{list_any}
use Rattle.std.proofs.Math.Path.{fun_ext}
use Rattle.db_format.specs.Pages.{Pages, nothing}
use Rattle.btree_model.specs.Finding.{leaves, is_sound}
use Rattle.btree_model.specs.Freelist.{freelist_walk}
use Rattle.btree_model.specs.Parts.{parts}
use Rattle.btree_model.specs.Plain.{free_leaves, is_leaf, with_zeros}
use Rattle.btree_model.proofs.LeafLemmas.{is_in}
use Rattle.btree_model.proofs.WholeLemmas.{parts_same}

-- the leaves of a freelist without a defect, and of one with a defect
leaves_where : (pages : Pages) (sound : Bool) → is_sound (freelist_walk pages nothing) ≡ sound
    → free_leaves pages ≡ (if sound then leaves (freelist_walk pages nothing) else [])
leaves_where pages sound is = ap (λ b. if b then leaves (freelist_walk pages nothing) else []) is

pub leaf_is : (pages : Pages) (n : ℕ) → is_sound (freelist_walk pages nothing) ≡ true → is_leaf pages n ≡ is_in (leaves (freelist_walk pages nothing)) n
leaf_is pages n sound = ap (λ l. is_in l n) (leaves_where pages true sound)

-- these pages, with other bytes
with_page : Pages → (ℕ → List ℕ) → Pages
with_page pages page = record { count = pages.count; usable = pages.usable; page = page; accepts = pages.accepts }

-- with zeros for leaves the parts are the same
zeros_by : (pages : Pages) (sound : Bool) → is_sound (freelist_walk pages nothing) ≡ sound → parts (with_zeros pages) ≡ parts pages
unfolding with_page
zeros_by pages true is = parts_same pages (with_zeros pages) is (record {
  count = refl;
  usable = refl;
  alike = λ n kept. record {
    bytes = ap (λ b. if b then replicate pages.usable 0 else pages.page n) (leaf_is pages n is ∙ kept);
    accepted = refl;
  };
})
zeros_by pages false is =
    ap (λ page. parts (with_page pages page))
    (fun_ext (λ n. ap (λ l. if list_any (λ m. m == n) l then replicate pages.usable 0 else pages.page n) (leaves_where pages false is)))

pub zeros_same : (pages : Pages) → parts (with_zeros pages) ≡ parts pages
zeros_same pages = zeros_by pages (is_sound (freelist_walk pages nothing)) refl

-- the same pages with zeros, and the same of them in use accepted
pub record IsSamePlain (old new : Pages) : Type 0 where
  pub count : new.count ≡ old.count
  pub usable : new.usable ≡ old.usable
  pub plain : (n : ℕ) → (with_zeros new).page n ≡ (with_zeros old).page n
  pub accepted : (n : ℕ) → is_leaf old n ≡ false → new.accepts n ≡ old.accepts n

pub plain_parts : (old new : Pages) → is_sound (freelist_walk old nothing) ≡ true → IsSamePlain old new → parts new ≡ parts old
plain_parts old new sound same =
    sym (zeros_same new)
    ∙ parts_same old (with_zeros new) sound (record {
      count = same.count;
      usable = same.usable;
      alike = λ n kept.
          let none : is_leaf old n ≡ false = leaf_is old n sound ∙ kept in
          record {
            bytes = same.plain n ∙ ap (λ b. if b then replicate old.usable 0 else old.page n) none;
            accepted = same.accepted n none;
          };
    })
