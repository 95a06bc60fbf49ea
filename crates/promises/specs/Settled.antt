-- Document 01, "What the promises have to say" (a): "Each public function's promise settles the result and every word of lent memory, refusals too; that
-- two answers allowed by it coincide is proved". Assumes nothing.
use Rattle.std.specs.Prelude.{ℕ, ◌≡◌, List}
use contract.Lifetimes.{Lfts}
use denote.Triple.Clauses.{Lasts, AtExit, at_exit}
use borrow.Fn.Kinds.{ParamKind, ResultKind, In, Out, Dens, res_t, ended_of}

module _ {n : ℕ} (ps : List (ParamKind n)) (r : ResultKind n) where
  -- Of a function with parameters ps and result r, `asks` is what it requires of its arguments, and `promise` what it ensures of them, of the result and of
  -- the last values of all that was lent to it: the clauses above its code. Two results that the promise allows for the same arguments agree in what is
  -- `seen` of them, and the last values with them are the same.
  abbrev pub SettledAs : (X : Lfts n → Type 0) → ((κs : Lfts n) → (res_t r κs).Denot → X κs) → In n ps → Out n ps r → Type 0
  SettledAs X seen asks promise =
      (κs : Lfts n) (a : Dens κs ps) (x y : (res_t r κs).Denot) (v w : Lasts (ended_of n ps r) κs a) → asks κs a
      → promise κs a x (at_exit (ended_of n ps r) κs a v) → promise κs a y (at_exit (ended_of n ps r) κs a w)
      → (seen κs x ≡ seen κs y) × (v ≡ w)

  -- THE PROMISE LEAVES ONE ANSWER: one result, and one value of every word of lent memory
  abbrev pub Settled : In n ps → Out n ps r → Type 0
  Settled = SettledAs (λ κs. (res_t r κs).Denot) (λ κs x. x)

  -- of the last values, what is `seen` of them
  abbrev pub SettledIn : (X : Type 0) → ((κs : Lfts n) (a : Dens κs ps) → Lasts (ended_of n ps r) κs a → X) → In n ps → Out n ps r → Type 0
  SettledIn X seen asks promise =
      (κs : Lfts n) (a : Dens κs ps) (x y : (res_t r κs).Denot) (v w : Lasts (ended_of n ps r) κs a) → asks κs a
      → promise κs a x (at_exit (ended_of n ps r) κs a v) → promise κs a y (at_exit (ended_of n ps r) κs a w)
      → seen κs a v ≡ seen κs a w

  -- every result that the promise allows has this property
  abbrev pub Promised : Out n ps r → ((κs : Lfts n) → Dens κs ps → (res_t r κs).Denot → Type 0) → Type 0
  Promised promise Has = (κs : Lfts n) (a : Dens κs ps) (x : (res_t r κs).Denot) (e : AtExit (ended_of n ps r) κs) → promise κs a x e → Has κs a x

  -- "A refused call leaves the lent buffers just as they came": with a result that is a refusal go the last values that came
  abbrev pub Leaves : ((κs : Lfts n) (a : Dens κs ps) → Lasts (ended_of n ps r) κs a) → ((κs : Lfts n) → (res_t r κs).Denot → Type 0) → Out n ps r → Type 0
  Leaves came IsRefusal promise =
      (κs : Lfts n) (a : Dens κs ps) (x : (res_t r κs).Denot) (v : Lasts (ended_of n ps r) κs a) → promise κs a x (at_exit (ended_of n ps r) κs a v) → IsRefusal κs x → v ≡ came κs a
