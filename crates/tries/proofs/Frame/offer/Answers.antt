-- `offer`: one cell's words are lent to `place`. Assumes nothing.
use mathlib.Core.Path.{◌≡◌, ap, ◌∙◌}
use Prim.Native.Nat.{ℕ, ◌+◌, ◌-◌, ◌*◌}
use Rattle.tries.proofs.Offering.{offer-law}
use native.Mathlib.Omega.{arith}
use Rattle.tries.proofs.Frame.offer.Goals as goal
use Rattle.tries.proofs.Frame.offer.Goals.{After-label_at}

-- once the cell's place is found
module _ (k : After-label_at) where
  -- where its words begin
  abbrev place_of : ℕ
  place_of = k.args.to + k.label_at.result

  -- what is lent there is a label's words
  lent-size : place_of + k.args.self.now.w - place_of ≡ k.args.self.now.d + 2
  lent-size = omega (arith, k.args.self.now.framed.sized.words)

pub returns : goal.returns
returns c = let k = (goal.at.returns c).After-label_at in
    let a = c.args in
    let w = c.args.self.now.framed.sized.words in
    let r = c.label_at in
    let x = c.place in
    offer-law a.self.now.d a.cand.now a.labels.now x.new.cell a.to a.self.now.span a.cell r.result (place_of k + a.self.now.w - place_of k)
    (r.ensures.0 ∙ ap (λ (n : ℕ). a.cell * n) w) (omega (arith, w, r.ensures.1)) c.requires.2 (c.requires.1 ∙ w) (lent-size k) x.ensures
