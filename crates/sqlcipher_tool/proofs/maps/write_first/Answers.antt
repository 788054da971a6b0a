use Rattle.std.proofs.Common.{◌≡◌, ◌∙◌, ◌+◌, ◌%◌, ◌^◌, ℕ, List, true, ap, subst, sym}
use Rattle.std.proofs.lemmas.Result.{on_ok_weaker}
use Rattle.cipher_profile.specs.Profile.{usable}
use Rattle.edge_model.specs.Moments.{and_then, then_from}
use Rattle.map_pages.specs.Maps.{map_count}
use Rattle.map_pages.specs.Trunks.{trunk_from}
use Rattle.pager.specs.Changed.{with_bytes}
use Rattle.pager.specs.Pages.{is_page_number}
use Rattle.sqlcipher_tool.specs.FirstPage.{next_change, with_field}
use Rattle.sqlcipher_tool.specs.Maps.{versions, versions_at}
use Rattle.sqlcipher_tool.proofs.FieldsWritten.{again}
use Rattle.sqlcipher_tool.proofs.maps.write_first.Goals as goal

-- the page by the sizes that were read
by_sizes : (u u' n n' first free change : ℕ) (seen mid new : List ℕ) (old_first old_free : ℕ) → u' ≡ u → n' ≡ n → first ≡ trunk_from u' (map_count u' n') old_first 0
    → free ≡ (old_free + map_count u' n') % 2 ^ 32 → mid ≡ with_field 64 0 (with_field 52 0 (with_field 36 free (with_field 32 first seen)))
    → new ≡ with_field 92 change (with_field 28 n' (with_field 24 change (with_bytes versions_at versions mid)))
    → new ≡ with_field 92 change (with_field 28 n (with_field 24 change (with_bytes versions_at versions
    (with_field 64 0 (with_field 52 0 (with_field 36 ((old_free + map_count u n) % 2 ^ 32) (with_field 32 (trunk_from u (map_count u n) old_first 0) seen)))))))
by_sizes u u' n n' first free change seen mid new old_first old_free sized counted first_is free_is mid_is new_is =
    new_is
    ∙ (ap (λ (l : List ℕ). with_field 92 change (with_field 28 n' (with_field 24 change (with_bytes versions_at versions l)))) mid_is
    ∙ (ap (λ (f : ℕ). with_field 92 change (with_field 28 n' (with_field 24 change (with_bytes versions_at versions (with_field 64 0 (with_field 52 0 (with_field 36 f (with_field 32 first seen)))))))) free_is
    ∙ (ap (λ (t : ℕ). with_field 92 change (with_field 28 n' (with_field 24 change (with_bytes versions_at versions
    (with_field 64 0 (with_field 52 0 (with_field 36 ((old_free + map_count u' n') % 2 ^ 32) (with_field 32 t seen)))))))) first_is
    ∙ (ap (λ (k : ℕ). with_field 92 change (with_field 28 n' (with_field 24 change (with_bytes versions_at versions
    (with_field 64 0 (with_field 52 0 (with_field 36 ((old_free + map_count k n') % 2 ^ 32) (with_field 32 (trunk_from k (map_count k n') old_first 0) seen)))))))) sized
    ∙ ap (λ (m : ℕ). with_field 92 change (with_field 28 m (with_field 24 change (with_bytes versions_at versions
    (with_field 64 0 (with_field 52 0 (with_field 36 ((old_free + map_count u m) % 2 ^ 32) (with_field 32 (trunk_from u (map_count u m) old_first 0) seen)))))))) counted))))

pub returns-clause-changed : goal.returns-clause-changed
returns-clause-changed g c =
    let t = c.args.txn.now in
    let h = c.args.header.now in
    on_ok_weaker c.write_fields.result (λ changed told.
    by_sizes (usable t.write.profile) c.usable-usable.result t.count c.pages-pages.result c.first_trunk-first.result ((h.free_count + c.map_count.result) % 2 ^ 32) (next_change h.change) _ _ _ h.first_trunk h.free_count
    c.usable-usable.ensures c.pages-pages.ensures c.first_trunk-first.ensures (ap (λ (m : ℕ). (h.free_count + m) % 2 ^ 32) c.map_count.ensures) (c.in-Ok.ensures.changed told) (changed told)) c.write_fields.ensures.changed

pub returns-clause-touched : goal.returns-clause-touched
returns-clause-touched g c =
    on_ok_weaker c.write_fields.result (λ touched m num.
    again m _ _ _ (touched m (subst (λ (k : ℕ). is_page_number k m ≡ true) (sym c.write_freelist.ensures.file.2) num)) (c.in-Ok.ensures.touched m num)) c.write_fields.ensures.touched

pub returns-clause-any_moment : goal.returns-clause-any_moment
returns-clause-any_moment g c told = and_then (c.write_freelist.ensures.any_moment told) (c.write_fields.ensures.any_moment told)

pub returns-clause-fresh : goal.returns-clause-fresh
returns-clause-fresh g c told = then_from g.met.D.Disk.counts_now (λ a b d ab bd. bd ∙ ab) (c.write_freelist.ensures.fresh told) (c.write_fields.ensures.fresh told)
