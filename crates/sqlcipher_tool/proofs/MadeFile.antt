-- A made file opens to its rows, and is clean.
use Rattle.std.proofs.Common.{◌≡◌, ◌+◌, ◌<◌, ◌&&◌, not, ℕ, Bool, true, false, List, refl, rules, ap, ◌∙◌}
use Rattle.btree_model.specs.Plain.{is_leaf}
use Rattle.cipher_profile.specs.declared.keys.Secret.{Secret}
use Rattle.cipher_profile.specs.declared.profile.Profile.{Profile}
use Rattle.export_rows.proofs.Zeros.{zeros_content}
use Rattle.make_job.specs.Made.{IsMade, made_content, made_header}
use Rattle.page_codec.specs.Page.{accepts, keys_of}
use Rattle.pager.specs.File.{page_stored}
use Rattle.pager.specs.Pages.{is_page_number, opened_pages}
use Rattle.sqlcipher_tool.specs.Plain.{IsClean, is_left}
use Rattle.sqlcipher_tool.proofs.OpenedParts.{open_count, open_parts}
use Rattle.sqlcipher_tool.proofs.Verified.{none_where}

numbered : (count i : ℕ) → i < count → is_page_number count (1 + i) ≡ true
numbered count i within = search (rules, within)

left : (leaf number accepted : Bool) → number ≡ true → accepted ≡ true → (not leaf && not (number && accepted)) ≡ false
left true number accepted one two = refl
left false number accepted one two = ap (λ (b : Bool). not (b && accepted)) one ∙ ap (λ (b : Bool). not b) two

pub made_clean : (profile : Profile) (secret : Secret) (rows : ℕ) (file : List ℕ) → IsMade profile secret rows file
    → (clean : IsClean (keys_of profile secret file) file) × (clean.held ≡ made_content rows)
made_clean profile secret rows file made =
    let keys = keys_of profile secret file in
    let pages = opened_pages keys file made.count in
    let parts = open_parts keys file (made_header profile made.count) made.count made.opens in (
      record {
        held = made_content rows;
        opens = record {
          fit = parts.fit;
          count = made.count;
          is_count = open_count keys file (made_header profile made.count) made.count parts;
          sound = made.holds.sound;
          is = zeros_content pages made.holds.sound ∙ made.holds.is;
        };
        accepted = none_where (is_left pages (is_leaf pages)) made.count (λ i within.
            let number = numbered made.count i within in
            left (is_leaf pages (1 + i)) (is_page_number made.count (1 + i)) (accepts keys (1 + i) (page_stored keys file (1 + i))) number (made.accepted (1 + i) number));
      },
      refl,
    )
