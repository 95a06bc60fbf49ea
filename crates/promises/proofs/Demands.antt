-- Demand 3 of any answer that the promises allow: what the build leaves in the label buffer, and what the read-back answers on any words. Assumes nothing.
use Prim.Native.Nat.{ℕ, ◌≤◌}
use mathlib.Core.Path.{◌≡◌, sym, ◌∙◌}
use mathlib.Core.List.{List, [], ◌∷◌}
use lib.ListN.{length, get_or}
use contract.Lifetimes.{Lfts}
use denote.Triple.Clauses.{Lasts, at_exit}
use borrow.Fn.Kinds.{Dens, ended_of}
use Rattle.std.proofs.Common.{Result, Ok}
use Rattle.words.specs.Pieces.{write}
use Rattle.request.specs.declared.Refusal.{Refusal}
use Rattle.request.specs.Request.{asked}
use Rattle.cover.specs.Walk.{Walk, sums}
use Rattle.route.specs.Chain.{chain}
use Rattle.route.specs.Answer.{arcs_of}
use Rattle.route.specs.declared.Back.{Back}
use Rattle.route.specs.declared.Ending.TheVariants as ending
use Rattle.table.specs.Build.{labels_after}
use Rattle.demands.specs.Demands.{Demand3}
use Rattle.demands.proofs.Demands.{demand3, any-route}
use Rattle.table.proofs.build
use Rattle.route.proofs.read_back as back

-- where the build answers t tries: the cover, the walks, the tries and the bounds, of the label buffer as it is left
pub build-covers : (κs : Lfts 3) (a : Dens κs build.Kinds.ps) (x : Result ℕ Refusal) (v : Lasts (ended_of 3 build.Kinds.ps build.Kinds.r) κs a) (t : ℕ)
    → build.Reads.Learnt κs a x (at_exit (ended_of 3 build.Kinds.ps build.Kinds.r) κs a v) → x ≡ Ok t
    → (v.1.1.1.0 ≡ labels_after (asked a.0 a.1.0.now) (length a.1.1.0.now) a.1.1.1.0.now)
    × Demand3 a.0 a.1.0.now a.1.1.0.now a.1.1.1.0.now t
build-covers κs a x v t p e = (p.1.1, demand3 a.0 a.1.0.now a.1.1.0.now a.1.1.1.0.now t (sym p.0 ∙ e))

-- where the read-back answers a route of n arcs: they are a walk from the source to the asked node, no longer than the asked layer's number, with exactly the
-- answered costs, and stand at the front of the route buffer
pub back-walks : (κs : Lfts 3) (a : Dens κs back.Kinds.ps) (x : Back) (v : Lasts (ended_of 3 back.Kinds.ps back.Kinds.r) κs a) (n : ℕ)
    → back.Reads.Learnt κs a x (at_exit (ended_of 3 back.Kinds.ps back.Kinds.r) κs a v) → x.ending ≡ ending.Route n
    → (ws : List ℕ) × Walk (asked a.0 a.1.0.now) a.0.source ws a.1.1.1.1.0 × (length ws ≤ a.1.1.1.0) × (n ≡ length ws)
    × (x.costs ≡ get_or (sums (asked a.0 a.1.0.now) ws) 0 0 ∷ get_or (sums (asked a.0 a.1.0.now) ws) 1 0 ∷ get_or (sums (asked a.0 a.1.0.now) ws) 2 0 ∷ [])
    × (v.1.1.1.1.1.1.0 ≡ write a.1.1.1.1.1.1.0.now 0 ws)
back-walks κs a x v n p e =
    let W = a.1.1.0.now in
    let i = a.1.1.1.0 in
    let u = a.1.1.1.1.0 in
    let c = a.1.1.1.1.1.0 in
    let r = any-route a.0 a.1.0.now W a.1.1.1.1.1.1.0.now i u c n (sym p.0 ∙ e) in
    (arcs_of (chain (asked a.0 a.1.0.now) W i u c), r.walk, r.short, r.count, p.1.0 ∙ r.exact, p.1.1 ∙ r.written)
