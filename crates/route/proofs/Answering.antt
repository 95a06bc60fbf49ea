-- The read-back's rows one after another, and its three answers from how they are weighed. Assumes nothing.
use Prim.Native.Nat.{ℕ, ◌*◌, ◌≤◌, ◌<◌}
use mathlib.Core.Path.{◌≡◌, sym, ap, ◌∙◌, subst}
use mathlib.Core.Bool.{Bool, true, false, cond, not, ◌||◌}
use mathlib.Core.List.{List, [], ◌∷◌}
use lib.ListN.{length, get_or}
use lib.Dec.{T, leb, ltb, nltb→le}
use Rattle.words.specs.Pieces.{write}
use Rattle.words.specs.Rows.{Weighed, clear, refused, weigh, settle}
use Rattle.words.proofs.Choices.{nor-left}
use Rattle.words.proofs.Rows.{weigh-append, weigh-front, weigh-held, weigh-passed, weigh-none}
use Rattle.request.specs.Request.{Req, width, reach}
use Rattle.request.specs.Shape.{cells, label_count}
use Rattle.request.specs.Rows.{rows}
use Rattle.request.specs.Accepted.{Accepted}
use Rattle.request.specs.Refusal.{number_of, place_of}
use Rattle.request.specs.declared.Refusal.{Refusal}
use Rattle.request.proofs.Tests.{lt-holds, lt-fails}
use Rattle.route.proofs.Numbers.{refusal-named}
use Rattle.rounds.specs.Rounds.{label_in}
use Rattle.rounds.specs.Label.{costs, filled}
use Rattle.route.specs.Chain.{Chain, whole, broken, chain}
use Rattle.route.specs.Answer.{breaks, break_layer, arcs_of, back_rows, refusal, ended, ending_of, costs_after, route_after}
use Rattle.route.specs.declared.Ending.{Ending}
use Rattle.route.specs.declared.Ending.TheVariants as ending

-- ---- the rows

-- a layer, node and cell that are there: the layer is at most K
pub layer-asked : (k n m i v c : ℕ) → T (not (ltb k i || leb n v || leb m c)) → i ≤ k
layer-asked k n m i v c t = nltb→le k i (nor-left (ltb k i) (leb n v) (nor-left (ltb k i || leb n v) (leb m c) t))

-- rows 2 to 14 pass: an accepted request, words and room enough, and a layer, node and cell that are there
pub record Placed (R : Req) (W : List ℕ) (room i v c : ℕ) : Type 0 where
  pub accepted : Accepted R
  pub long : label_count R * width R ≤ length W
  pub roomy : reach R ≤ room
  pub inside : T (not (ltb R.hops i || leb R.nodes v || leb (cells R) c))

module _ (R : Req) (W : List ℕ) (room i v c : ℕ) where
  pub refused-early : (n p : ℕ) → weigh (rows R) ≡ refused n p → weigh (back_rows R W room i v c) ≡ refused n p
  unfolding back_rows
  refused-early n p e = weigh-front (rows R) _ n p e

  module _ (ok : Accepted R) where
    pub short-labels : length W < label_count R * width R → weigh (back_rows R W room i v c) ≡ refused 13 1
    unfolding back_rows Accepted
    short-labels h = weigh-append (rows R) _ ok ∙ weigh-held _ _ (lt-holds h)

    module _ (long : label_count R * width R ≤ length W) where
      pub short-route : room < reach R → weigh (back_rows R W room i v c) ≡ refused 13 2
      unfolding back_rows Accepted
      short-route h = weigh-append (rows R) _ ok ∙ weigh-passed _ _ (lt-fails long) ∙ weigh-held _ _ (lt-holds h)

      module _ (roomy : reach R ≤ room) where
        pub beyond-asked : T (ltb R.hops i || leb R.nodes v || leb (cells R) c) → weigh (back_rows R W room i v c) ≡ refused 14 0
        unfolding back_rows Accepted
        beyond-asked t = weigh-append (rows R) _ ok ∙ weigh-passed _ _ (lt-fails long) ∙ weigh-passed _ _ (lt-fails roomy) ∙ weigh-held _ _ t

  module _ (placed : Placed R W room i v c) where
    -- then the label decides
    label-left : weigh (back_rows R W room i v c)
        ≡ weigh (record { number = 15; holds = cond (filled R (label_in R W i v c)) false true; place = 0 } ∷ record { number = 16; holds = breaks (chain R W i v c); place = break_layer (chain R W i v c) } ∷ [])
    unfolding back_rows Accepted
    label-left = weigh-append (rows R) _ placed.accepted ∙ weigh-passed _ _ (lt-fails placed.long) ∙ weigh-passed _ _ (lt-fails placed.roomy) ∙ weigh-passed _ _ placed.inside

    pub empty-cell : filled R (label_in R W i v c) ≡ false → weigh (back_rows R W room i v c) ≡ refused 15 0
    empty-cell e = label-left ∙ weigh-held _ _ (subst (λ (b : Bool). T (cond b false true)) (sym e) tt)

    module _ (some : filled R (label_in R W i v c) ≡ true) where
      -- and, where it is filled, its chain
      chain_left : weigh (back_rows R W room i v c) ≡ weigh (record { number = 16; holds = breaks (chain R W i v c); place = break_layer (chain R W i v c) } ∷ [])
      chain_left = label-left ∙ weigh-passed _ _ (subst (λ (b : Bool). T (not (cond b false true))) (sym some) tt)

      pub chain-broken : (k : ℕ) → chain R W i v c ≡ broken k → weigh (back_rows R W room i v c) ≡ refused 16 k
      chain-broken k e =
          chain_left ∙ ap (λ (x : Chain). weigh (record { number = 16; holds = breaks x; place = break_layer x } ∷ [])) e
          ∙ weigh-held (record { number = 16; holds = true; place = k }) [] tt

      pub chain-whole : (ws : List ℕ) → chain R W i v c ≡ whole ws → weigh (back_rows R W room i v c) ≡ clear
      chain-whole ws e =
          chain_left ∙ ap (λ (x : Chain). weigh (record { number = 16; holds = breaks x; place = break_layer x } ∷ [])) e
          ∙ weigh-passed (record { number = 16; holds = false; place = 0 }) [] tt ∙ weigh-none

-- ---- the answers

-- costs 0
abbrev pub none : List ℕ
none = 0 ∷ 0 ∷ 0 ∷ []

-- the three costs of a label
abbrev pub three : List ℕ → List ℕ
three xs = get_or xs 0 0 ∷ get_or xs 1 0 ∷ get_or xs 2 0 ∷ []

-- an ending, costs and a buffer that are the read-back's answer, in the order of its promises
abbrev pub Answered : Req → List ℕ → List ℕ → ℕ → ℕ → ℕ → Ending → List ℕ → List ℕ → Type 0
Answered R W buffer i v c e xs after =
    (e ≡ ending_of R W (length buffer) i v c) × ((xs ≡ costs_after R W (length buffer) i v c) × (after ≡ route_after R W buffer i v c))

module _ (R : Req) (W buffer : List ℕ) (i v c : ℕ) where
  module _ (e : Ending) (xs : List ℕ) (is_none : xs ≡ 0 ∷ 0 ∷ 0 ∷ []) where
    left : (n p : ℕ) → weigh (back_rows R W (length buffer) i v c) ≡ refused n p → e ≡ refusal n p → Answered R W buffer i v c e xs buffer
    unfolding ending_of costs_after route_after
    left n p w h = (
      h ∙ sym (ap (λ (x : Weighed). ended x (length (arcs_of (chain R W i v c)))) w),
      (
        is_none ∙ sym (ap (λ (x : Weighed). settle x (three (costs R (label_in R W i v c))) none) w),
        sym (ap (λ (x : Weighed). settle x (write buffer 0 (arcs_of (chain R W i v c))) buffer) w),
      ),
    )

    -- a refusal leaves the buffer
    pub refused_all : (r : Refusal) → weigh (back_rows R W (length buffer) i v c) ≡ refused (number_of r) (place_of r) → e ≡ ending.Refused r → Answered R W buffer i v c e xs buffer
    refused_all r w q = left (number_of r) (place_of r) w (q ∙ sym (refusal-named r))

    -- and so does an empty cell
    pub empty-all : weigh (back_rows R W (length buffer) i v c) ≡ refused 15 0 → e ≡ ending.Empty → Answered R W buffer i v c e xs buffer
    unfolding refusal
    empty-all w q = left 15 0 w q

  -- a route is written at the front
  pub route-all : weigh (back_rows R W (length buffer) i v c) ≡ clear → (n : ℕ) → n ≡ length (arcs_of (chain R W i v c)) → (xs after : List ℕ) → xs ≡ three (costs R (label_in R W i v c)) → after ≡ write buffer 0 (arcs_of (chain R W i v c))
      → Answered R W buffer i v c (ending.Route n) xs after
  unfolding ending_of costs_after route_after
  route-all w n h xs after q r = (
    ap ending.Route h ∙ sym (ap (λ (x : Weighed). ended x (length (arcs_of (chain R W i v c)))) w),
    (
      q ∙ sym (ap (λ (x : Weighed). settle x (three (costs R (label_in R W i v c))) none) w),
      r ∙ sym (ap (λ (x : Weighed). settle x (write buffer 0 (arcs_of (chain R W i v c))) buffer) w),
    ),
  )
