-- What a walk makes: an `Option` and a `Result`, at any rows. Assumes `Logic`.
use mathlib.Core.Path.{◌≡◌, refl}
use mathlib.Core.List.{List, [], ◌∷◌}
use mathlib.Core.Bool.{Bool, true, false, not}
use lib.Dec.{T}
use seplogic.Ra.Ura.{Ura}
use mir.Val.{Val, of_list}
use base.Logic.{ent, emp}
use types.Logic.{Logic, sem}
use types.Kit.{‵, ◌$◌, ◌∵◌, !, qed, move, fjoin, fpack, feq_i, done}
use types.Match.{live}
use denote.RattleType.{RattleType, Valss, owns}
use denote.Steps.{nothing}
use denote.Enum.Row.{tagged_with}
use denote.Enum.Enum.{form_of, in_a_row}
use denote.Enum.Declared.{shape}
use Rattle.std.specs.Prelude.{Some, None, Ok, Err}
use Rattle.std.specs.contracts.option.Option.{the_type, the_row}
use Rattle.std.specs.contracts.result.Result as res

pub is_on : (b : Bool) → T b → b ≡ true
is_on true on = refl
is_on false on = elim on [ ]

pub is_off : (b : Bool) → T (not b) → b ≡ false
is_off true off = elim off [ ]
is_off false off = refl

module _ {M : Type 1} {𝓤 : Ura M} (𝓛 : Logic 𝓤) (R : RattleType) where
  pub none_in : ent 𝓤 (emp 𝓤) (sem 𝓛 ((the_row R).own_val None (live 0 (of_list []) ∷ [])))
  none_in =
      qed 𝓛 [] ∵ nothing ! $ feq_i ! (List Val) [] [] refl $ fjoin ! $ fpack ! (Valss []) (in_a_row [] (owns [] tt) []) tt $
      feq_i ! (List Val) (live 0 (of_list []) ∷ []) (live 0 (of_list []) ∷ []) refl $ fjoin ! $
      fpack ! (List Val) (tagged_with (form_of (shape (the_type R))) (form_of (shape (the_type R))).payload ((the_type R).to None) (live 0 (of_list []) ∷ [])) [] $ done !

  pub some_in : (x : R.Denot) (v : Val) → ent 𝓤 (sem 𝓛 (R.own_val x (v ∷ []))) (sem 𝓛 ((the_row R).own_val (Some x) (live 1 (of_list (v ∷ [])) ∷ [])))
  some_in x v =
      qed 𝓛 (‵ (R.own_val x (v ∷ [])) ∷ []) ∵ nothing ! $ move ! (1 ∷ 0 ∷ []) $ fjoin ! $ feq_i ! (List Val) (v ∷ []) (v ∷ []) refl $ fjoin ! $
      fpack ! (Valss (R ∷ [])) (in_a_row (R ∷ []) (owns (R ∷ []) (x, tt)) (v ∷ [])) (v ∷ [], tt) $
      feq_i ! (List Val) (live 1 (of_list (v ∷ [])) ∷ []) (live 1 (of_list (v ∷ [])) ∷ []) refl $ fjoin ! $
      fpack ! (List Val) (tagged_with (form_of (shape (the_type R))) (form_of (shape (the_type R))).payload ((the_type R).to (Some x)) (live 1 (of_list (v ∷ [])) ∷ [])) (v ∷ []) $ done !

module _ {M : Type 1} {𝓤 : Ura M} (𝓛 : Logic 𝓤) (R E : RattleType) where
  pub ok_in : (x : R.Denot) (v : Val) → ent 𝓤 (sem 𝓛 (R.own_val x (v ∷ []))) (sem 𝓛 ((res.the_row R E).own_val (Ok x) (live 0 (of_list (v ∷ [])) ∷ [])))
  ok_in x v =
      qed 𝓛 (‵ (R.own_val x (v ∷ [])) ∷ []) ∵ nothing ! $ move ! (1 ∷ 0 ∷ []) $ fjoin ! $ feq_i ! (List Val) (v ∷ []) (v ∷ []) refl $ fjoin ! $
      fpack ! (Valss (R ∷ [])) (in_a_row (R ∷ []) (owns (R ∷ []) (x, tt)) (v ∷ [])) (v ∷ [], tt) $
      feq_i ! (List Val) (live 0 (of_list (v ∷ [])) ∷ []) (live 0 (of_list (v ∷ [])) ∷ []) refl $ fjoin ! $
      fpack ! (List Val) (tagged_with (form_of (shape (res.the_type R E))) (form_of (shape (res.the_type R E))).payload ((res.the_type R E).to (Ok x)) (live 0 (of_list (v ∷ [])) ∷ [])) (v ∷ []) $ done !

  pub err_in : (e : E.Denot) (v : Val) → ent 𝓤 (sem 𝓛 (E.own_val e (v ∷ []))) (sem 𝓛 ((res.the_row R E).own_val (Err e) (live 1 (of_list (v ∷ [])) ∷ [])))
  err_in e v =
      qed 𝓛 (‵ (E.own_val e (v ∷ [])) ∷ []) ∵ nothing ! $ move ! (1 ∷ 0 ∷ []) $ fjoin ! $ feq_i ! (List Val) (v ∷ []) (v ∷ []) refl $ fjoin ! $
      fpack ! (Valss (E ∷ [])) (in_a_row (E ∷ []) (owns (E ∷ []) (e, tt)) (v ∷ [])) (v ∷ [], tt) $
      feq_i ! (List Val) (live 1 (of_list (v ∷ [])) ∷ []) (live 1 (of_list (v ∷ [])) ∷ []) refl $ fjoin ! $
      fpack ! (List Val) (tagged_with (form_of (shape (res.the_type R E))) (form_of (shape (res.the_type R E))).payload ((res.the_type R E).to (Err e)) (live 1 (of_list (v ∷ [])) ∷ [])) (v ∷ []) $ done !
