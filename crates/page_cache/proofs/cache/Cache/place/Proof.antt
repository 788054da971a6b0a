-- `place` puts a page into a frame and lends its bytes, and the cache follows them. Assumes `Logic`.
use mathlib.Core.Path.{◌≡◌, refl, ap}
use mathlib.Core.Bool.{Bool, true, false}
use Prim.Native.Nat.{ℕ, ◌<◌}
use mathlib.Core.List.{List, [], ◌∷◌}
use lib.Dec.{lit<}
use base.Fraction.{full_share}
use base.Logic.{id⊢, emp}
use base.Fml.{ftrue, flft, fres}
use mir.Syntax.{w32, named}
use mir.Val.{Val, vstruct, vnil, of_list}
use contract.Monad.{fact, fact_i}
use contract.Running.{tables}
use types.Kit.{Item, ‵, raw, ◌⊛◌, some, later, at_ret, ◌$◌, ◌∵◌, !, qed, move, keep, drop, use0, use1, use2, use3, split, join, fsplit, fsplit3, fjoin, pick, await, rewrite, suffices, frame, done}
use types.Match.{live}
use types.Part.{agg}
use types.Run.{enter, of_opd, lit, addr, stop, no_more, and_then, first, branches, exec, returns}
use types.ByLocal.{alloc_all, pass_all, free_all, look_at, get, through, sets, sets_last, lands_as, env}
use types.Tokens.{lft_new, lft_end}
use denote.Array.{Array}
use denote.Builtin.{u8, u32, bool}
use denote.Exit.{yes, no}
use denote.Follow.{follows, follows_by}
use denote.Laws.{Is, shows}
use denote.Lend.{lends_again, comes_back, LentAgain}
use denote.Plain.{uint_vals, uint_Tells, uint_Makes}
use denote.RattleType.{RattleType}
use denote.Ref.{MutRef, MutBor, mut_vals, mut_Tells}
use denote.Shadow.{makes_shadow}
use denote.Signature.{plain, mut_ref_to}
use denote.Slice.{MutSlice, slice_val}
use denote.Steps.{nothing, owned, heard, peeks, only}
use denote.Triple.Call.{calls_at}
use denote.Triple.Clauses.{lasts}
use denote.Triple.Spec.{triple_of}
use denote.Triple.Table.{framed}
use denote.Triple.Walked.{Stays, stay_dropped, walk_of, ends_at, says, Goes-dropped, Goes-spent_ref}
use Rattle.std.proofs.raw_atomic.Walks.{proved}
use Rattle.std.specs.Prelude.{Ok, Err, Some, replicate, length}
use Rattle.std.specs.contracts.result.Result as res
use Rattle.page_cache.proofs.Options.{ok_in, err_in, is_on, is_off}
use Rattle.page_cache.proofs.CallerLemmas.{not_held, fresh_bytes, fresh_held, changed_fresh}
use Rattle.page_cache.specs.Pages.{HeldPages, held_bytes, is_held, changed, fresh_frame}
use Rattle.page_cache.specs.contracts.cache.Full.{the_row as Full-row}
use Rattle.page_cache.specs.declared.cache.Full.{Full}
use Rattle.page_cache.specs.Cache.{written_over}
use Rattle.page_cache.specs.contracts.cache.Cache.{the_row as R}
use Rattle.page_cache.specs.contracts.cache.Cache.place as f
use Rattle.page_cache.proofs.cache.Cache.place.Statement.{statement}
use Rattle.page_cache.proofs.cache.Cache.place.Code as code
use Rattle.page_cache.specs.contracts.cache.Cache.claim as g
use Rattle.page_cache.proofs.cache.Cache.claim.Met as g-met
use Rattle.page_cache.specs.contracts.cache.Cache.at_mut as h
use Rattle.page_cache.proofs.cache.Cache.at_mut.Met as h-met

abbrev stayed : Stays f.ended.signature.params f.ended.kept
stayed = (stay_dropped (mut_ref_to (0 ∷ []) tt (plain (λ _. R))) no, (stay_dropped (plain (λ _. u32)) yes, tt))

pub place_spec : {M : Type 1} → statement M
unfolding follows_by
place_spec 𝓤 𝓛 𝓜 𝓡 wired =
    let c = f.clauses 𝓛 𝓜.mem 𝓡.returns in let W = walk_of 𝓛 f.ended stayed c in let 𝓣 = tables 𝓤 𝓛.H 𝓜 𝓡 𝓡.env in
    proved 𝓛 f.ended stayed c 𝓜 𝓡 (Goes-spent_ref 𝓛 1 (0 ∷ []) tt (plain (λ _. R)), (Goes-dropped 𝓛 1 (plain (λ _. u32)) yes (λ κs x w. refl), tt))
    f.Key.name code.function (code.unfolded 𝓤 𝓛.H 𝓜 𝓡 wired)
    (λ κs. (mut_vals, (uint_vals w32, tt))) (λ κs. (mut_Tells (named 0) κs.0 R, (uint_Tells w32, tt))) (λ κs qs bounds a _ are.
    let κ = κs.0 in let q = qs.0 in let s = a.0 in let n = a.1.0 in let b = s.ref_ptr.0 in let o = s.ref_ptr.1 in
    let vss : List Val × (List Val × Unit {0}) = (mut_vals s, (uint_vals w32 n, tt)) in
    let y : W.Ghost = ((κs, qs, bounds, a, vss), tt) in
    let Ref = λ (κ' : List ℕ) (x : MutBor HeldPages). (MutRef (named 0) κ' R).own_val x (mut_vals s) in
    let Bytes : RattleType = MutSlice (named 0) κ u8 in let full : Full = record {} in
    let Absent : Type 0 = is_held n s.now.held ≡ false in let placed : HeldPages = record s.now { held = fresh_frame n s.now.usable ∷ s.now.held } in
    qed 𝓛 (((‵ (flft κ q) ⊛ ‵ ftrue) ⊛ ‵ (Ref κ s) ⊛ ‵ (u32.own_val n (uint_vals w32 n)) ⊛ ‵ ftrue) ∷ raw (fact 𝓤 Absent) ∷ []) ∵
    move ! (1 ∷ []) $ heard ! _ (λ absent.
    split ! $ split ! $ move ! (2 ∷ []) $ split ! $ keep ! (0 ∷ 2 ∷ []) $
    enter ! _ _ _ _ _ $ alloc_all ! (λ l. pass_all ! refl ((tt, tt), ((tt, record { fits = are.1.0.1 }), tt)) $
    -- [the reference; the token of κ]
    sets ! (addr ! (through ! refl (stop !))) refl (tt, tt) $
    lft_new ! tt (λ α. move ! (1 ∷ 2 ∷ []) $
    use2 𝓛 (later (some (λ (δ : ℕ). ‵ (Ref (α ∷ []) (record s { ghost_name = δ })) ⊛ ‵ (LentAgain R κ (α ∷ []) q s.ghost_name b o δ s.now))))
    (lends_again 𝓛 R (named 0) κ (α ∷ []) q s.ghost_name b o (named 0) s.now) $ await ! tt $ pick ! (λ δ. split ! $
    -- [the loan; what the lender keeps; the token of α]
    let G = triple_of 𝓛 g.signature (g.spec 𝓛 𝓜.mem 𝓡.returns) in
    let z : G.Ghost = (((α ∷ [], tt), (full_share, tt), tt, (record s { ghost_name = δ }, (n, tt)), vss), tt) in
    let Given : Val → Bool → Item 𝓤 = λ v r. ((‵ (flft (α ∷ []) full_share) ⊛ ‵ ftrue) ⊛ ‵ (bool.own_val r (v ∷ []))) ⊛
    some (λ (ws : HeldPages × (Unit {0} × Unit {0})). ‵ (lasts g.ended z.0.0 z.0.3 ws) ⊛ (raw (fact 𝓤 (r ≡ true → ws.0 ≡ placed)) ⊛ (raw (fact 𝓤 (r ≡ true → length s.now.held < s.now.frames))
    ⊛ (raw (fact 𝓤 (r ≡ false → length s.now.held ≡ s.now.frames)) ⊛ raw (fact 𝓤 (r ≡ false → ws.0 ≡ s.now)))))) in
    owned ! u32 _ (uint_Makes 𝓛 w32) n _ (refl, are.1.0.1) $ nothing ! $ move ! (1 ∷ 0 ∷ []) $ join ! $ move ! (1 ∷ 0 ∷ []) $ join ! $
    nothing ! $ move ! (3 ∷ 0 ∷ []) $ join ! $ join ! $ use0 𝓛 (raw (fact 𝓤 Absent)) (fact_i 𝓤 Absent (emp 𝓤) absent) $ move ! (1 ∷ 0 ∷ []) $ use2 𝓛 (raw (G.pre z)) (id⊢ 𝓤 _) $
    calls_at ! (framed 𝓤 𝓛.H 𝓜 𝓣) G (g-met.met 𝓤 𝓛 𝓜 𝓡 (code.calls-page_cache::cache::Cache::claim 𝓡.env wired)) z
    (and_then ! (get ! refl) (and_then ! (get ! refl) (no_more !))) (λ v.
    use1 𝓛 (later (some (Given v))) (id⊢ 𝓤 _) $ await ! tt $ pick ! (λ r. split ! $ split ! $ split ! $ lft_end ! tt $
    -- [α is over; nothing; the answer; the rest of the clauses; what the lender keeps]
    move ! (3 ∷ []) $ pick ! (λ ws. split ! $ move ! (1 ∷ []) $ split ! $ heard ! _ (λ put. split ! $ heard ! _ (λ some_frame. split ! $ heard ! _ (λ no_frame. heard ! _ (λ kept. fsplit ! $ fsplit ! $
    -- [the loan's last value; its borrow; nothing; α is over; nothing; the answer; what the lender keeps]
    move ! (3 ∷ 6 ∷ 0 ∷ []) $ use3 𝓛 (later (‵ (Ref κ (record s { now = ws.0 })) ⊛ ‵ (flft κ q))) (comes_back 𝓛 R (named 0) κ (α ∷ []) q s.ghost_name b o δ s.now ws.0) $ await ! tt $ split ! $
    -- [the reference; the token of κ; the loan's borrow; nothing; nothing; the answer]
    move ! (5 ∷ []) $ peeks ! bool (Is bool) (shows 𝓛 bool) r (v ∷ []) (λ word. drop ! $
    lands_as ! (ap only word) refl (tt, tt) $
    first ! $ branches ! (get ! refl)
    (λ there.
    rewrite ! 0 (λ (now : HeldPages). ‵ (Ref κ (record s { now = now }))) (put (is_on r there)) refl $
    sets ! (addr ! (through ! refl (stop !))) refl (tt, tt) $
    let J = triple_of 𝓛 h.signature (h.spec 𝓛 𝓜.mem 𝓡.returns) in
    let lent : MutBor HeldPages × (ℕ × Unit {0}) = (record s { now = placed }, (n, tt)) in
    let w : J.Ghost = ((κs, qs, tt, lent, vss), tt) in
    let held : is_held n placed.held ≡ true = fresh_held n s.now.usable s.now.held in
    let Shown : MutBor (List ℕ) → Type 0 = λ x. held_bytes n placed.held ≡ Some x.now in
    let Left : Val → MutBor (List ℕ) → Item 𝓤 = λ u x. ((‵ (flft κ q) ⊛ ‵ ftrue) ⊛ ‵ (Bytes.own_val x (u ∷ []))) ⊛
    some (λ (ws' : Unit {0} × (Unit {0} × Unit {0})). ‵ (lasts h.ended κs lent ws') ⊛ (‵ (follows R (Array u8 0) s.ghost_name x.ghost_name (λ w. record placed { held = changed n (written_over w) placed.held }))
    ⊛ (raw (fact 𝓤 (Shown x)) ⊛ raw (fact 𝓤 (length x.now ≡ placed.usable))))) in
    owned ! u32 _ (uint_Makes 𝓛 w32) n _ (refl, are.1.0.1) $
    nothing ! $ move ! (1 ∷ 0 ∷ []) $ join ! $ move ! (1 ∷ 0 ∷ []) $ join ! $ nothing ! $ move ! (2 ∷ 0 ∷ []) $ join ! $ join ! $
    use0 𝓛 (raw (fact 𝓤 (is_held n placed.held ≡ true))) (fact_i 𝓤 (is_held n placed.held ≡ true) (emp 𝓤) held) $ move ! (1 ∷ 0 ∷ []) $ use2 𝓛 (raw (J.pre w)) (id⊢ 𝓤 _) $
    calls_at ! (framed 𝓤 𝓛.H 𝓜 𝓣) J (h-met.met 𝓤 𝓛 𝓜 𝓡 (code.calls-page_cache::cache::Cache::at_mut 𝓡.env wired)) w (and_then ! (get ! refl) (and_then ! (get ! refl) (no_more !))) (λ u.
    use1 𝓛 (later (some (Left u))) (id⊢ 𝓤 _) $ await ! tt $ pick ! (λ x. split ! $ split ! $ move ! (1 ∷ []) $ peeks ! Bytes (Is Bytes) (shows 𝓛 Bytes) x (u ∷ []) (λ shape.
    let v' : Val = slice_val x.ref_ptr (length x.now) in
    rewrite ! 0 (λ vs. ‵ (Bytes.own_val x vs)) shape.0.0 refl $
    move ! (2 ∷ []) $ pick ! (λ ws'. split ! $ drop ! $ split ! $ move ! (1 ∷ []) $ split ! $ heard ! _ (λ same. heard ! _ (λ size.
    -- [how the cache follows the bytes; the bytes; the token of κ]
    lands_as ! (ap only shape.0.0) refl (tt, (tt, (record { fits = shape.0.1.0 }, tt))) $
    sets_last ! (agg ! (and_then ! (lit ! tt) (and_then ! (get ! refl) (no_more !)))) refl (tt, (record { fits = lit< tt }, ((tt, (record { fits = shape.0.1.0 }, tt)), tt))) $
    exec ! 𝓣.C 𝓣.Λ (env code.Mir.locals l) code.Mir.t-4 (at_ret _ (W.post y)) $
    sets ! (of_opd ! (get ! refl)) refl (tt, (record { fits = lit< tt }, ((tt, (record { fits = shape.0.1.0 }, tt)), tt))) $
    returns ! (look_at ! 0 refl) $ free_all ! refl $
    rewrite ! 0 (λ (ends : List ℕ → HeldPages). ‵ (follows R (Array u8 0) s.ghost_name x.ghost_name ends)) (λ i w. record s.now { held = changed_fresh n s.now.usable (written_over w) s.now.held (not_held n s.now.held absent) i }) refl $
    move ! (2 ∷ []) $ split ! $ keep ! (3 ∷ 0 ∷ 2 ∷ []) $
    use1 𝓛 (‵ ((res.the_row Bytes Full-row).own_val (Ok x) (live 0 (of_list (v' ∷ [])) ∷ []))) (ok_in 𝓛 Bytes Full-row x v') $
    suffices ! _ (ends_at 𝓛 f.ended stayed c y (live 0 (of_list (v' ∷ []))) (Ok x) (tt, (tt, tt)) (tt, (tt, tt))) $
    let zeros : x.now ≡ replicate s.now.usable 0 = fresh_bytes n s.now.usable s.now.held x.now same in
    nothing ! $ nothing ! $ fjoin ! $ nothing ! $ fjoin ! $ join ! $ nothing ! $ move ! (2 ∷ 0 ∷ []) $ join ! $ join ! $ frame ! $ frame ! $ says ! (some_frame (is_on r there), tt) $
    use0 𝓛 (raw (fact 𝓤 (x.now ≡ replicate s.now.usable 0))) (fact_i 𝓤 (x.now ≡ replicate s.now.usable 0) (emp 𝓤) zeros) $ done !)))))))
    (λ none.
    rewrite ! 0 (λ (now : HeldPages). ‵ (Ref κ (record s { now = now }))) (kept (is_off r none)) refl $
    sets ! (agg ! (no_more !)) refl (tt, tt) $
    sets_last ! (agg ! (and_then ! (lit ! tt) (and_then ! (get ! refl) (no_more !)))) refl (tt, (record { fits = lit< tt }, (tt, tt))) $
    exec ! 𝓣.C 𝓣.Λ (env code.Mir.locals l) code.Mir.t-4 (at_ret _ (W.post y)) $
    sets ! (of_opd ! (get ! refl)) refl (tt, (record { fits = lit< tt }, (tt, tt))) $
    returns ! (look_at ! 0 refl) $ free_all ! refl $ keep ! (0 ∷ 1 ∷ []) $
    -- the reference is given up, and what it showed stays so
    fsplit3 ! $ move ! (1 ∷ []) $ use1 𝓛 (‵ (fres s.ghost_name (R.coded.code s.now))) (𝓛.names.obs-res s.ghost_name (R.coded.code s.now)) $ keep ! (3 ∷ 0 ∷ []) $
    use0 𝓛 (‵ (Full-row.own_val full (vstruct vnil ∷ []))) (makes_shadow 𝓛 (Full-row.own_val full (vstruct vnil ∷ [])) (λ vss. (tt, tt)) (tt, (refl, tt))) $
    use1 𝓛 (‵ ((res.the_row Bytes Full-row).own_val (Err full) (live 1 (of_list (vstruct vnil ∷ [])) ∷ []))) (err_in 𝓛 Bytes Full-row full (vstruct vnil)) $
    suffices ! _ (ends_at 𝓛 f.ended stayed c y (live 1 (of_list (vstruct vnil ∷ []))) (Err full) (tt, (tt, tt)) (tt, (tt, tt))) $
    nothing ! $ nothing ! $ fjoin ! $ nothing ! $ fjoin ! $ join ! $ nothing ! $ move ! (2 ∷ 0 ∷ []) $ join ! $ join ! $ frame ! $ frame ! $ says ! (tt, no_frame (is_off r none)) $
    use0 𝓛 (raw (fact 𝓤 (Unit {0}))) (fact_i 𝓤 (Unit {0}) (emp 𝓤) tt) $ done !)
    )))))))))))))
