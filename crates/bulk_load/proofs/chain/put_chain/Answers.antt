use Rattle.std.proofs.Common.{rules, ◌≡◌, ℕ, ◌+◌, ◌*◌, ◌-◌, ◌<◌, ◌≤◌, ◌==◌, if◌then◌else◌, inl, inr, false, List, [], ◌++◌, length, take, drop, refl, ap, sym, subst, ◌∙◌, arith, ◌/◌}
use Rattle.std.proofs.Math.Seq.{drop-length}
use Rattle.db_format.specs.Pages.{Pages}
use Rattle.bulk_load.specs.Chain.{IsPutChain}
use Rattle.bulk_load.specs.Count.{pages_for}
use Rattle.bulk_load.specs.Out.{Follows}
use Rattle.bulk_load.specs.Own.{only}
use Rattle.bulk_load.proofs.ChainLemmas.{chain_start, chain_full, chain_first, whole_pages, piece_drop, piece_long, less_page, page_fits, only_first, counted_down, not_zero}
use Rattle.bulk_load.proofs.PutLemmas.{covers_before, covers_behind, follows_all, follows_same}
use Rattle.bulk_load.proofs.chain.put_chain.Goals.{then-left-eq0, else-left-eq0, then-left-gt0, else-left-gt0}
use Rattle.bulk_load.proofs.chain.put_chain.Goals as goal

pub loop-end-init : goal.loop-end-init
loop-end-init g c =
    let p = g.P.PageOut in
    let old : Pages = p.pages c.args.out.now in
    let rest : List ℕ = c.args.rest.now in
    let size : ℕ = c.len-size.result - 4 in
    let long : c.len-size.result ≡ length c.args.page.now.items = omega (arith, c.len-size.ensures, c.args.page.now.ok.0) in
    let some : 0 < size = omega (arith, c.requires.large) in
    record {
      chain = λ start well own covers. subst (λ l. IsPutChain (only own old) (only own old) 0 l) (sym (drop-length rest)) (chain_start (only own old) (omega (arith, c.requires.size, c.requires.large)));
      within = omega arith;
      page_size = elim c.if-left-gt0.branch [ then-left-gt0 w ↦ search rules | else-left-gt0 w ↦ search rules ];
      whole = length rest / size;
      multiple = whole_pages (length rest) size some;
      taken = refl;
      small = omega arith;
      part = inr refl;
      begun = inl (refl, refl);
      follows = follows_same p.pages p.limit p.faults p.well c.args.out.now;
      fresh = search rules;
    }

pub loop-end-preserved : goal.loop-end-preserved
loop-end-preserved g c =
    let p = g.P.PageOut in
    let old : Pages = p.pages c.args.out.now in
    let mid : Pages = p.pages c.loop-end.out in
    let new : Pages = p.pages c.put_link.new.out in
    let rest : List ℕ = c.args.rest.now in
    let i = c.loop-end.invariant in
    let end : ℕ = c.loop-end.end in
    let left : ℕ = c.loop-end.left in
    let size : ℕ = c.len-size.result - 4 in
    let at : ℕ = end - c.if-left-eq0.at in
    let piece : List ℕ = take (end - at) (drop at rest) in
    let joined : piece ++ drop end rest ≡ drop at rest = piece_drop rest at end (omega arith) in
    let within : end ≤ length rest = i.within in
    let long : length piece ≡ end - at = piece_long rest at end (omega arith) within in
    let all : c.len-size.result ≡ length c.args.page.now.items = omega (arith, c.len-size.ensures, c.args.page.now.ok.0) in
    let usable : c.len-size.result ≡ old.usable = all ∙ c.requires.size in
    let large : 480 ≤ c.len-size.result = rw all c.requires.large in
    let begun : 0 < end = omega arith in
    let multiple : end ≡ i.whole * size + left = i.multiple in
    let page_size : length c.put_link.new.page.items ≡ old.usable = c.in_ok-next.ensures.size ∙ i.page_size in
    let follows : Follows p.pages p.limit p.faults p.well false c.args.out.now c.put_link.new.out =
    follows_all p.pages p.limit p.faults p.well false c.args.out.now c.loop-end.out c.put_link.new.out i.follows c.in_ok-next.ensures.follows in
    let fresh : p.only_fresh c.args.out.now c.put_link.new.out = search rules in
    elim c.if-left-eq0.branch [
      | then-left-eq0 w ↦
          let none : left ≡ 0 = w.if-left-eq0.true in
          let taken : c.if-left-eq0.at ≡ size = w.at-is in
          let whole : end ≡ i.whole * size = omega arith in
          let fits : size ≤ end = page_fits i.whole size end whole begun in
          let some : 0 < i.whole * size = omega arith in
          let less : i.whole * size - size ≡ (i.whole - 1) * size = less_page i.whole size some in
          record {
            chain = λ start well own covers.
                subst (λ l. IsPutChain (only own old) (only own new) c.in_ok-next.next l) joined
                (chain_full (only own old) (only own mid) (only own new) c.loop-end.next c.in_ok-next.next piece (drop end rest) (i.chain start well own (covers_before _ own _ _ _ c.in_ok-next.ensures.keeps.count covers))
                (c.in_ok-next.ensures.link start (i.follows.told start well) own (covers_behind _ own _ _ _ i.follows.keeps.count covers)) (omega arith) (omega arith));
            within = omega arith;
            page_size = page_size;
            whole = i.whole - 1;
            taken = let was : (p.pages c.loop-end.out).count + (i.whole + 0) ≡ old.count + pages_for size (length rest) = subst (λ k. (p.pages c.loop-end.out).count + (i.whole + (if k == 0 then 0 else 1)) ≡ old.count + pages_for size (length rest)) none i.taken in counted_down (p.pages c.loop-end.out).count new.count i.whole size (old.count + pages_for size (length rest)) c.in_ok-next.ensures.one some was;
            multiple = omega arith;
            small = omega arith;
            part = inl refl;
            begun = inr (c.in_ok-next.ensures.low, omega arith);
            follows = follows;
            fresh = fresh;
          }
      | else-left-eq0 w ↦
          let some : 0 < left = omega arith in
          let taken : c.if-left-eq0.at ≡ left = w.at-is in
          let whole : end ≡ length rest = only_first left end (length rest) i.part some in
          let nothing_behind : drop end rest ≡ [] = ap (λ n. drop n rest) whole ∙ drop-length rest in
          record {
            chain = λ start well own covers.
                subst (λ l. IsPutChain (only own old) (only own new) c.in_ok-next.next l) joined
                (chain_first (only own old) (only own mid) (only own new) c.loop-end.next c.in_ok-next.next piece (drop end rest) (i.chain start well own (covers_before _ own _ _ _ c.in_ok-next.ensures.keeps.count covers))
                (c.in_ok-next.ensures.link start (i.follows.told start well) own (covers_behind _ own _ _ _ i.follows.keeps.count covers)) (omega arith) nothing_behind (omega arith));
            within = omega arith;
            page_size = page_size;
            whole = i.whole;
            taken = let was : (p.pages c.loop-end.out).count + (i.whole + 1) ≡ old.count + pages_for size (length rest) = subst (λ b. (p.pages c.loop-end.out).count + (i.whole + (if b then 0 else 1)) ≡ old.count + pages_for size (length rest)) (not_zero left some) i.taken in let one : new.count ≡ (p.pages c.loop-end.out).count + 1 = c.in_ok-next.ensures.one in omega arith;
            multiple = omega arith;
            small = omega arith;
            part = inl refl;
            begun = inr (c.in_ok-next.ensures.low, omega arith);
            follows = follows;
            fresh = fresh;
          }
    ]

pub returns-clause-chain : goal.returns-clause-chain
returns-clause-chain g c start well own covers =
    let p = g.P.PageOut in
    let whole : c.loop-end.end ≡ 0 = omega (arith, c.loop-end-test.false) in
    subst (λ e. IsPutChain (only own (p.pages c.args.out.now)) (only own (p.pages c.loop-end.out)) c.loop-end.next (drop e c.args.rest.now)) whole
    (c.loop-end.invariant.chain start well own covers)
