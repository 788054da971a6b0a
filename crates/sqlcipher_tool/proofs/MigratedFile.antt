-- A migrated file opens to the content of the old one.
use Rattle.std.proofs.Common.{◌≡◌, ℕ, true, List, Ok, ◌∙◌}
use Rattle.btree_model.specs.Content.{Content, content}
use Rattle.btree_model.specs.Parts.{is_database}
use Rattle.cipher_profile.specs.declared.keys.Secret.{Secret}
use Rattle.cipher_profile.specs.declared.profile.Profile.{Profile}
use Rattle.export_rows.proofs.Zeros.{zeros_content}
use Rattle.migrate_job.specs.Migrated.{IsMigrated, IsMigratedUnder}
use Rattle.page_codec.specs.Page.{FileKeys, keys_of}
use Rattle.pager.specs.Opening.{Opened, file_opened}
use Rattle.pager.specs.Pages.{opened_pages}
use Rattle.sqlcipher_tool.specs.Migrate.{IsMigratedSo}
use Rattle.sqlcipher_tool.specs.Plain.{Opens}
use Rattle.sqlcipher_tool.proofs.OpenedParts.{open_count, open_parts}

-- a file that opens, and of which no part has a defect
opens_to : (keys : FileKeys) (file : List ℕ) (x : Opened) → file_opened keys file ≡ Ok x → is_database (opened_pages keys file x.count) ≡ true
    → Opens keys file (content (opened_pages keys file x.count))
opens_to keys file x is sound =
    let open_so = open_parts keys file x.header x.count is in record {
      fit = open_so.fit;
      count = x.count;
      is_count = open_count keys file x.header x.count open_so;
      sound = sound;
      is = zeros_content (opened_pages keys file x.count) sound;
    }

pub migrated_so : (old_keys new_keys : FileKeys) (before after : List ℕ) (x : Opened) → file_opened old_keys before ≡ Ok x
    → IsMigratedUnder new_keys x.header (opened_pages old_keys before x.count) after → IsMigratedSo old_keys new_keys before after
migrated_so old_keys new_keys before after x is whole =
    let now = open_parts new_keys after _ whole.count whole.opens in record {
      held = content (opened_pages old_keys before x.count);
      was = opens_to old_keys before x is whole.sound;
      is = record {
        fit = now.fit;
        count = whole.count;
        is_count = open_count new_keys after _ whole.count now;
        sound = whole.holds.sound;
        is = zeros_content (opened_pages new_keys after whole.count) whole.holds.sound ∙ whole.holds.is;
      };
      opened = x;
      opens = is;
      whole = whole;
    }

-- so both open to one content
pub migrated_opens : (old_keys : FileKeys) (profile : Profile) (secret : Secret) (old new : List ℕ) (x : Opened) → file_opened old_keys old ≡ Ok x
    → IsMigrated profile secret x.header (opened_pages old_keys old x.count) new → (held : Content) × Opens old_keys old held × Opens (keys_of profile secret new) new held
migrated_opens old_keys profile secret old new x is whole =
    let both = migrated_so old_keys (keys_of profile secret new) old new x is whole in (both.held, both.was, both.is)
