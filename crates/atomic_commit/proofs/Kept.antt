-- What a step of a transaction keeps.
use Rattle.std.proofs.Common.{◌≡◌, ◌≢◌, ◌⊎◌, inl, inr, ⊎_elim, ℕ, suc, zero, ◌+◌, ◌-◌, ◌*◌, ◌<◌, ◌≤◌, List, [], ◌∷◌, ◌++◌, length, drop, get_or, Option, Some, None, refl, sym, ◌∙◌, ap, subst, arith, length-drop}
use Rattle.std.proofs.lemmas.List.{ext_get_or, get_or-take, get_or-drop, length-take}
use Rattle.std.proofs.Math.Nat.{mul-pos, suc-mul, mul-le-mul_right}
use Rattle.edge_model.specs.Files.{File, Files, bytes_of, number_of, Torn, contents, main_of}
use Rattle.edge_model.specs.Images.{From, MayStep, Changes, IsNumbered, HasSynced, LeavesOnly}
use Rattle.edge_model.specs.Moments.{weaker}
use Rattle.edge_model.specs.declared.role.Role.TheVariants.{Main}
use Rattle.journal_format.specs.Records.{Record}
use Rattle.rollback_journal.specs.Laying.{page_start, laid, IsGivenByte}
use Rattle.rollback_journal.specs.Recovery.{KeepsRecovered, RecoversTo}
use Rattle.rollback_journal.proofs.Laid.{laid_length, reach_end}
use Rattle.rollback_journal.proofs.Played.{page_end}
use Rattle.atomic_commit.specs.Database.{Base, stored_page, stored_pages, old_pages, IsDatabase, HoldsPages, HoldsOld, HoldsEither}
use Rattle.atomic_commit.specs.Journals.{PlaysJust}
use Rattle.rollback_journal.specs.Plays.{PlaysNone, PlaysAsBefore, PlaysAsBeforeOrAll, PlaysAsBeforeOrNone}
use Rattle.atomic_commit.specs.Facts.{AreOld, HasNone, HaveOneEach, HasRecord, HasPages, DiffersBehind, IsBase, IsGuarded, Facts, IsCommitBegun, SameFresh}
use Rattle.atomic_commit.proofs.Pages.{same_pages, same_bytes, pages_long}
use Rattle.atomic_commit.proofs.Recovered.{main_alone, old_front, holds_old, laid_old, old_sized, some_main}

order : (a b : ℕ) → (a < b) ⊎ (b ≤ a)
order a b = search arith

-- a step that keeps what is recovered keeps the database
pub keeps_holds : (base : Base) (size : ℕ) (db : List (List ℕ)) (d c : Files) → size ≡ base.size → KeepsRecovered size d c → HoldsPages base db d → HoldsPages base db c
keeps_holds base size db d c same keeps holds = record {
  some = back.still holds.some.0 holds.some.1;
  only = λ file recovers. holds.only file (back.no_other file recovers);
}
  where
    back : KeepsRecovered base.size d c
    back = subst (λ (n : ℕ). KeepsRecovered n d c) same keeps

-- a journal that is not played leaves Main
pub alone_holds : (base : Base) (c : Files) → IsBase base → HasPages base (main_of c) → PlaysNone (bytes_of c.journal) → HoldsPages base (stored_pages base.size base.pages (main_of c)) c
alone_holds base c is pages none =
    let alone = main_alone base.size c (some_main c.main (omega (arith, mul-pos is.pages is.size, pages.long))) none in
    record {
      some = (main_of c, alone.0);
      only = λ file recovers. subst (λ (f : List ℕ). IsDatabase base (stored_pages base.size base.pages (main_of c)) f) (sym (alone.1 file recovers)) (record { pages_are = refl; counted = pages.counted });
    }

-- the same, where Main is known
pub settled_holds : (base : Base) (main : Option File) (c : Files) → IsBase base → c.main ≡ main → HasPages base (contents main) → PlaysNone (bytes_of c.journal) → HoldsPages base (stored_pages base.size base.pages (contents main)) c
settled_holds base main c is same pages none =
    subst (λ (f : Option File). HoldsPages base (stored_pages base.size base.pages (contents f)) c) same (alone_holds base c is (subst (λ (f : Option File). HasPages base (contents f)) (sym same) pages) none)

-- while the journal is closed: the old database, or Main
pub closing_holds : (base : Base) (size : ℕ) (main : Option File) (d c : Files) → size ≡ base.size → IsBase base → d.main ≡ main → HasPages base (contents main) → HoldsOld base d → PlaysAsBeforeOrNone size d c
    → HoldsEither base (stored_pages base.size base.pages (contents main)) c
closing_holds base size main d c same is here pages holds step =
    ⊎_elim (λ keeps. inl (keeps_holds base size (old_pages base) d c same keeps holds)) (λ none. inr (settled_holds base main c is (step.same.main ∙ here) pages none)) step.plays

-- The records of a page.
pub given_page : (size n : ℕ) (records : List Record) (i : ℕ) → HasRecord n records → page_start size n ≤ i → i < page_start size n + size → IsGivenByte size records i
given_page size n [] i has from to = absurd has
given_page size n (entry ∷ rest) i (inl same) from to = inl (subst (λ (p : ℕ). page_start size p ≤ i) (sym same) from, subst (λ (p : ℕ). i < page_start size p + size) (sym same) to)
given_page size n (entry ∷ rest) i (inr later) from to = inr (given_page size n rest i later from to)

-- two pages that share a byte are one
below_apart : (size p n i : ℕ) → 1 ≤ p → p < n → i < page_start size p + size → page_start size n ≤ i → ⊥
below_apart size zero n i one lt to from = absurd (omega (arith, one))
below_apart size (suc p) n i one lt to from =
    let e : suc p - 1 ≡ p = omega arith in
    absurd (omega (arith, ap (λ (k : ℕ). k * size) e, suc-mul p size, mul-le-mul_right size (let k : suc p ≤ n - 1 = omega (arith, lt) in k), to, from))

one_page : (size p n i : ℕ) → 1 ≤ p → 1 ≤ n → page_start size p ≤ i → i < page_start size p + size → page_start size n ≤ i → i < page_start size n + size → p ≡ n
one_page size p n i one_p one_n from_p to_p from_n to_n = go (order p n) (order n p)
  where
    go : (p < n) ⊎ (n ≤ p) → (n < p) ⊎ (p ≤ n) → p ≡ n
    go (inl lt) any = absurd (below_apart size p n i one_p lt to_p from_n)
    go (inr le) (inl lt) = absurd (below_apart size n p i one_n lt to_n from_p)
    go (inr le) (inr ge) = omega (arith, le, ge)

not_given : (base : Base) (n : ℕ) (records : List Record) (i : ℕ) → AreOld base records → HasNone n records → 1 ≤ n → page_start base.size n ≤ i → i < page_start base.size n + base.size → IsGivenByte base.size records i → ⊥
not_given base n [] i old none one from to given = given
not_given base n (entry ∷ rest) i old none one from to (inl here) = none.0 (one_page base.size entry.page n i old.0 one here.0 here.1 from to)
not_given base n (entry ∷ rest) i old none one from to (inr later) = not_given base n rest i old.3 none.1 one from to later

none_front : (n : ℕ) (some more : List Record) → HasNone n (some ++ more) → HasNone n some
none_front n [] more none = tt
none_front n (entry ∷ rest) more none = (none.0, none_front n rest more none.1)

-- a page that has no record is as it was at the start
pub page_unchanged : (base : Base) (safe waiting : List Record) (c : Files) (n : ℕ) → IsBase base → AreOld base (safe ++ waiting) → IsGuarded base safe c → HasNone n (safe ++ waiting) → 1 ≤ n → n ≤ base.pages
    → stored_page base.size n (main_of c) ≡ stored_page base.size n base.start
page_unchanged base safe waiting c n is old guarded none one le =
    let at = page_start base.size n in
    let end = page_end base.size n base.pages one le in
    let long = guarded.pages.long in
    let within = is.within in
    ext_get_or 0 (stored_page base.size n (main_of c)) (stored_page base.size n base.start)
    (omega (arith, length-take base.size (drop (page_start base.size n) (main_of c)), length-drop (page_start base.size n) (main_of c), length-take base.size (drop (page_start base.size n) base.start), length-drop (page_start base.size n) base.start, end, long, within))
    (λ i lt.
    let small : i < base.size = omega (arith, lt, length-take base.size (drop (page_start base.size n) (main_of c))) in
    get_or-take base.size (drop (page_start base.size n) (main_of c)) i 0 small
    ∙ get_or-drop (page_start base.size n) (main_of c) i 0
    ∙ ⊎_elim (λ given. absurd (not_given base n safe (page_start base.size n + i) (old_front base safe waiting old) (none_front n safe waiting none) one (omega arith) (omega (arith, small)) given)) (λ same. same)
    (guarded.differs (page_start base.size n + i) (omega (arith, small, end)))
    ∙ sym (get_or-drop (page_start base.size n) base.start i 0)
    ∙ sym (get_or-take base.size (drop (page_start base.size n) base.start) i 0 small))

-- Lists of records that grow.
pub given_more : (size : ℕ) (some more : List Record) (i : ℕ) → IsGivenByte size some i → IsGivenByte size (some ++ more) i
given_more size [] more i given = absurd given
given_more size (entry ∷ rest) more i (inl here) = inl here
given_more size (entry ∷ rest) more i (inr later) = inr (given_more size rest more i later)

pub old_one_more : (base : Base) (records : List Record) (entry : Record) → AreOld base records → 1 ≤ entry.page → entry.page ≤ base.pages → entry.image ≡ stored_page base.size entry.page base.start → AreOld base (records ++ entry ∷ [])
old_one_more base [] entry old one le is = (one, le, is, tt)
old_one_more base (first ∷ rest) entry old one le is = (old.0, old.1, old.2, old_one_more base rest entry old.3 one le is)

pub none_one_more : (n : ℕ) (records : List Record) (entry : Record) → HasNone n records → entry.page ≢ n → HasNone n (records ++ entry ∷ [])
none_one_more n [] entry none other = (other, tt)
none_one_more n (first ∷ rest) entry none other = (none.0, none_one_more n rest entry none.1 other)

pub apart_one_more : (records : List Record) (entry : Record) → HaveOneEach records → HasNone entry.page records → HaveOneEach (records ++ entry ∷ [])
apart_one_more [] entry apart none = (tt, tt)
apart_one_more (first ∷ rest) entry apart none = (none_one_more first.page rest entry apart.0 (λ same. none.0 (sym same)), apart_one_more rest entry apart.1 none.1)

pub apart_front : (some more : List Record) → HaveOneEach (some ++ more) → HaveOneEach some
apart_front [] more apart = tt
apart_front (entry ∷ rest) more apart = (none_front entry.page rest more apart.0, apart_front rest more apart.1)

-- An image whose Main stays, beside a journal that plays more.
pub guarded_moved : (base : Base) (safe more : List Record) (d c : Files) → c.main ≡ d.main → ((i : ℕ) → IsGivenByte base.size safe i → IsGivenByte base.size more i) → PlaysJust base.size base.pages more (bytes_of c.journal) → IsGuarded base safe d → IsGuarded base more c
guarded_moved base safe more d c same given plays guarded = record {
  pages = subst (λ (f : Option File). HasPages base (contents f)) (sym same) guarded.pages;
  differs = subst (λ (f : Option File). DiffersBehind base more (contents f)) (sym same) (λ i lt. ⊎_elim (λ g. inl (given i g)) (λ e. inr e) (guarded.differs i lt));
  plays = plays;
}

-- The facts after a call of the writer: Main stays, records may be added.
pub facts_moved : (base : Base) (safe waiting more next : List Record) (now new : Files) (old images : Files → Type 0) → Facts base safe waiting now old → new.main ≡ now.main → ((c : Files) → images c → (d : Files) × old d × (c.main ≡ d.main))
    → ((i : ℕ) → IsGivenByte base.size safe i → IsGivenByte base.size more i) → AreOld base (more ++ next) → HaveOneEach (more ++ next) → ((c : Files) → images c → PlaysJust base.size base.pages more (bytes_of c.journal)) → Facts base more next new images
facts_moved base safe waiting more next now new old images facts main from given are_old apart plays = record {
  base_is = facts.base_is;
  old_bytes = are_old;
  one_each = apart;
  guarded = λ c here. let d = from c here in guarded_moved base safe more d.0 c d.2 given (plays c here) (facts.guarded d.0 d.1);
  same_file = λ c here. let d = from c here in ap number_of d.2 ∙ facts.same_file d.0 d.1 ∙ sym (ap number_of main);
}

-- beside no journal an image recovers to its Main
alone : (size : ℕ) (main journal : Option File) (file : List ℕ) → journal ≡ None → RecoversTo size (bytes_of main) (bytes_of journal) file → file ≡ contents main
alone size None journal file none recovers = absurd recovers
alone size (Some main) None file none recovers = recovers
alone size (Some main) (Some journal) file none recovers = absurd (there journal none)
  where
    there : (f : File) → ◌≡◌ {A = Option File} (Some f) None → ⊥
    there f is = cc

-- before the journal is made, Main has the pages of the start
pub begun_pages : (base : Base) (images : Files → Type 0) (c : Files) → IsCommitBegun base images → images c → HasPages base (main_of c) × (stored_pages base.size base.pages (main_of c) ≡ old_pages base)
begun_pages base images c begun here =
    let holds = begun.holds c here in
    let is = holds.only holds.some.0 holds.some.1 in
    let main : holds.some.0 ≡ main_of c = alone base.size c.main c.journal holds.some.0 (begun.no_journal c here) holds.some.1 in
    let same = subst (λ (l : List ℕ). IsDatabase base (old_pages base) l) main is in
    (record { long = pages_long base.size base.pages (main_of c) base.start begun.base_is.within same.pages_are; counted = same.counted }, same.pages_are)

pub begun_guarded : (base : Base) (images : Files → Type 0) (c : Files) → IsCommitBegun base images → images c → IsGuarded base [] c
begun_guarded base images c begun here = record {
  pages = (begun_pages base images c begun here).0;
  differs = λ i lt. inr (same_bytes base.size base.pages (main_of c) base.start (begun_pages base images c begun here).1 i lt);
  plays = inr (refl, subst (λ (j : Option File). PlaysNone (bytes_of j)) (sym (begun.no_journal c here)) tt);
}

pub begun_old : (base : Base) (images : Files → Type 0) (c : Files) → IsCommitBegun base images → images c → HoldsOld base c
begun_old base images c begun here = begun.holds c here

pub plays_sized : (size pages : ℕ) (base : Base) (records : List Record) (journal : Option (List ℕ)) → size ≡ base.size → pages ≡ base.pages → PlaysJust size pages records journal → PlaysJust base.size base.pages records journal
plays_sized size pages base records journal same_size same_pages plays = subst (λ (s : ℕ). PlaysJust s base.pages records journal) same_size (subst (λ (p : ℕ). PlaysJust size p records journal) same_pages plays)

-- Main is written.
step_main : (step : List ℕ → List ℕ → Type 0) (now old new : Option File) → MayStep step now old new → (contents new ≡ contents old) ⊎ step (contents old) (contents new)
step_main step now old new (inl same) = inl (ap contents same)
step_main step now old new (inr s) = inr (subst (λ (b : List ℕ). step b (contents new)) (sym (ap contents s.was)) (subst (λ (b : List ℕ). step s.before b) (sym (ap contents s.is)) s.took))

pub main_number : (step : List ℕ → List ℕ → Type 0) (now old new : Option File) → MayStep step now old new → number_of new ≡ number_of old
main_number step now old new (inl same) = ap number_of same
main_number step now old new (inr s) = ap number_of s.is ∙ sym (ap number_of s.was)

-- Fresh is not the file that is written
pub main_fresh : (step : List ℕ → List ℕ → Type 0) (next : ℕ) (now d c : Files) → IsNumbered next d → number_of d.main ≡ number_of now.main → Changes Main step now d c → c.fresh ≡ d.fresh
main_fresh step next now d c numbered same changes = go changes.2
  where
    go : MayStep step now.main d.fresh c.fresh → c.fresh ≡ d.fresh
    go (inl stays) = stays
    go (inr s) = absurd (numbered.main_fresh s.number (same ∙ s.is_now) (ap number_of s.was))

torn_pages : (base : Base) (n at len : ℕ) (safe : List Record) (a b : List ℕ) → 1 ≤ n → n ≤ base.pages → len ≡ base.size → at ≡ page_start base.size n → HasRecord n safe → Torn at len a b → HasPages base a → DiffersBehind base safe a → HasPages base b × DiffersBehind base safe b
torn_pages base n at len safe a b one le sized place has torn pages differs = (
  record { long = omega (arith, long, pages.long); counted = ap base.counts long ∙ pages.counted },
  λ i lt. go i lt (order i at) (order i (at + len)),
)
  where
    long : length b ≡ length a
    long = omega (arith, torn.no_shorter, torn.no_longer, page_end base.size n base.pages one le, pages.long, sized, place)

    go : (i : ℕ) → i < base.pages * base.size → (i < at) ⊎ (at ≤ i) → (i < at + len) ⊎ (at + len ≤ i) → IsGivenByte base.size safe i ⊎ (get_or b i 0 ≡ get_or base.start i 0)
    go i lt (inl before) any = ⊎_elim (λ given. inl given) (λ same. inr (torn.below i (omega (arith, lt, pages.long)) before ∙ same)) (differs i lt)
    go i lt (inr from) (inl to) = inl (given_page base.size n safe i has (omega (arith, from, place)) (omega (arith, to, sized, place)))
    go i lt (inr from) (inr behind) = ⊎_elim (λ given. inl given) (λ same. inr (torn.above i (omega (arith, lt, pages.long)) behind ∙ same)) (differs i lt)

-- a write of a page whose record is behind an open gate, torn at any byte
pub write_guards : (base : Base) (n at len : ℕ) (safe : List Record) (now d c : Files) → 1 ≤ n → n ≤ base.pages → len ≡ base.size → at ≡ page_start base.size n → HasRecord n safe → Changes Main (Torn at len) now d c → IsGuarded base safe d → IsGuarded base safe c
write_guards base n at len safe now d c one le sized place has changes guarded = go (step_main (Torn at len) now.main d.main c.main changes.0)
  where
    plays : PlaysJust base.size base.pages safe (bytes_of c.journal)
    plays = subst (λ (j : Option File). PlaysJust base.size base.pages safe (bytes_of j)) (sym changes.1) guarded.plays

    go : (main_of c ≡ main_of d) ⊎ Torn at len (main_of d) (main_of c) → IsGuarded base safe c
    go (inl same) = record {
      pages = subst (λ (l : List ℕ). HasPages base l) (sym same) guarded.pages;
      differs = subst (λ (l : List ℕ). DiffersBehind base safe l) (sym same) guarded.differs;
      plays = plays;
    }
    go (inr torn) = let both = torn_pages base n at len safe (main_of d) (main_of c) one le sized place has torn guarded.pages guarded.differs in record { pages = both.0; differs = both.1; plays = plays }

-- the facts after it
pub facts_written : (base : Base) (n at len : ℕ) (safe waiting : List Record) (now new : Files) (old images : Files → Type 0) → 1 ≤ n → n ≤ base.pages → len ≡ base.size → at ≡ page_start base.size n → HasRecord n safe
    → Facts base safe waiting now old → Changes Main (Torn at len) now now new → ((c : Files) → images c → (d : Files) × old d × Changes Main (Torn at len) now d c) → Facts base safe waiting new images
facts_written base n at len safe waiting now new old images one le sized place has facts reads from = record {
  base_is = facts.base_is;
  old_bytes = facts.old_bytes;
  one_each = facts.one_each;
  guarded = λ c here. let d = from c here in write_guards base n at len safe now d.0 c one le sized place has d.2 (facts.guarded d.0 d.1);
  same_file = λ c here. let d = from c here in main_number (Torn at len) now.main d.0.main c.main d.2.0 ∙ facts.same_file d.0 d.1 ∙ sym (main_number (Torn at len) now.main now.main new.main reads.0);
}

-- what was synced is in each image
pub synced_main : (base : Base) (safe waiting : List Record) (now : Files) (images : Files → Type 0) (c : Files) → Facts base safe waiting now images → images c → HasSynced Main now c → c.main ≡ now.main
synced_main base safe waiting now images c facts here synced = synced.main (facts.same_file c here)

-- with the records laid back, Main has the old pages
pub laid_back : (base : Base) (safe : List Record) (main after : List ℕ) → IsBase base → AreOld base safe → HasPages base main → DiffersBehind base safe main → after ≡ laid base.size safe main
    → HasPages base after × (stored_pages base.size base.pages after ≡ old_pages base)
laid_back base safe main after is old pages differs same = (
  record { long = omega (arith, long, pages.long); counted = ap base.counts long ∙ pages.counted },
  same_pages base.size base.pages after base.start (omega (arith, long, pages.long)) is.within (λ i lt. ap (λ (l : List ℕ). get_or l i 0) same ∙ laid_old base safe main i is old (omega (arith, lt, pages.long)) (differs i lt)),
)
  where
    long : length after ≡ length main
    long = ap length same ∙ laid_length base.size (base.pages * base.size) safe main (old_sized base safe is old) (omega (arith, reach_end base.size (base.pages * base.size) safe (old_sized base safe is old), pages.long))

pub both : (P : List Record → Type 0) (a b s w : List Record) → a ≡ s → b ≡ w → P (s ++ w) → P (a ++ b)
both P a b s w ea eb p = subst (λ (x : List Record). P (x ++ b)) (sym ea) (subst (λ (y : List Record). P (s ++ y)) (sym eb) p)

pub facts_begun : (base : Base) (safe waiting : List Record) (new : Files) (old images : Files → Type 0) → IsCommitBegun base old → safe ≡ [] → waiting ≡ [] → ((c : Files) → images c → (d : Files) × old d × (c.main ≡ d.main))
    → ((c : Files) → images c → number_of c.main ≡ number_of new.main) → ((c : Files) → images c → PlaysJust base.size base.pages safe (bytes_of c.journal)) → Facts base safe waiting new images
facts_begun base safe waiting new old images begun es ew from names plays = record {
  base_is = begun.base_is;
  old_bytes = both (AreOld base) safe waiting [] [] es ew tt;
  one_each = both HaveOneEach safe waiting [] [] es ew tt;
  guarded = λ c here. let d = from c here in guarded_moved base [] safe d.0 c d.2 (λ i given. absurd given) (plays c here) (begun_guarded base old d.0 begun d.1);
  same_file = names;
}

-- while a gate is opened, the old database is recovered
pub opening_holds : (base : Base) (size pages : ℕ) (safe waiting : List Record) (now : Files) (images : Files → Type 0) (d c : Files) → size ≡ base.size → pages ≡ base.pages → Facts base safe waiting now images → images d → HoldsOld base d
    → PlaysAsBeforeOrAll size pages (safe ++ waiting) d c → HoldsOld base c
opening_holds base size pages safe waiting now images d c same_size same_pages facts here holds step =
    ⊎_elim (λ keeps. keeps_holds base size (old_pages base) d c same_size keeps holds)
    (λ plays. holds_old base (safe ++ waiting) c facts.base_is facts.old_bytes
    (guarded_moved base safe (safe ++ waiting) d c step.same.main (given_more base.size safe waiting) (plays_sized size pages base (safe ++ waiting) (bytes_of c.journal) same_size same_pages (inl plays)) (facts.guarded d here)))
    step.plays

module _ {D : Type 0} (images : D → Files → Type 0) {moment : D → ℕ} {since : D → ℕ → Files → Type 0} where
  pub old_run : (base : Base) (size : ℕ) (old new : D) → size ≡ base.size → ((c : Files) → images old c → HoldsOld base c) → LeavesOnly moment since old new (From (PlaysAsBefore size) (images old)) → LeavesOnly moment since old new (HoldsOld base)
  old_run base size old new same holds run = weaker (λ c from. keeps_holds base size (old_pages base) from.0 c same from.2.recovers (holds from.0 from.1)) run

  pub fresh_run : (R : Files → Files → Type 0) (old new : D) → ((d c : Files) → R d c → c.fresh ≡ d.fresh) → LeavesOnly moment since old new (From R (images old)) → LeavesOnly moment since old new (From SameFresh (images old))
  fresh_run R old new keeps run = weaker (λ c from. (from.0, from.1, keeps from.0 c from.2)) run
