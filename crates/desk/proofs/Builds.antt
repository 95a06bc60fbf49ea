-- The build's answers have room in a packed number. Assumes nothing.
use Prim.Native.Nat.{ℕ, ◌+◌, ◌-◌, ◌<◌}
use mathlib.Core.Path.{◌≡◌, refl}
use mathlib.Core.List.{List, [], ◌∷◌, ◌++◌}
use native.Mathlib.Omega.{arith}
use lib.ListN.{length}
use lib.Dec.{T, ltb}
use Rattle.words.specs.Pieces.{at}
use Rattle.words.specs.Rows.{Weighed, clear, weigh, each}
use Rattle.words.proofs.Rows.{weigh-clear-front}
use Rattle.request.specs.declared.Request.{Request}
use Rattle.request.specs.Request.{Req, asked, arc_count}
use Rattle.request.specs.Rows.{size_rows, ratio_row, arc_words_row, arc_fault, arc_row, bucket_row, label_row, ask_rows, arc_rows, shape_rows, rows}
use Rattle.request.specs.Accepted.{Accepted}
use Rattle.request.proofs.Accepted.{sizes-facts, words-facts, accepted-regular, accepted-small, accepted-fits}
use Rattle.request.proofs.Branches.{fault-cases}
use Rattle.rounds.specs.Rounds.{tries}
use Rattle.request.specs.Refusal.{answer}
use Rattle.table.specs.Build.{build_rows, built_of, built_said}
use Rattle.listing.proofs.Rooms.{tries-few}
use Rattle.desk.specs.Packed.{Answer}
use Rattle.desk.proofs.Sound.{Room, Sound, sound-append, sound-each, sound-listed, sound_more, table-answer, refusal-answer, small-room}

-- ---- the rows

sizes-sound : (n d s k : ℕ) → Sound (size_rows n d s k)
unfolding size_rows
sizes-sound n d s k = sound-listed (size_rows n d s k) tt

ratio-room : (ratios : List ℕ) (j : ℕ) → j < 2 → Room (ratio_row ratios j).number (ratio_row ratios j).place
unfolding ratio_row
ratio-room ratios j h = record { some = omega arith; few = omega arith; near = omega arith }

words-room : (words w : ℕ) → Room (arc_words_row words w).number (arc_words_row words w).place
unfolding arc_words_row
words-room words w = small-room 7 0 tt

-- an arc at fault has number 8 or 17
fault-room : (n d : ℕ) (w : List ℕ) (a : ℕ) → a < 512 → T (ltb 0 (arc_fault n d w)) → Room (arc_fault n d w) a
fault-room n d w a h =
    fault-cases (λ (x : ℕ). T (ltb 0 x) → Room x a) n d w
    (λ _. record { some = omega arith; few = omega arith; near = omega arith })
    (λ _. record { some = omega arith; few = omega arith; near = omega arith })
    (λ t. absurd t)

arc-room : (n d : ℕ) (arcs : List ℕ) (a : ℕ) → a < 512 → T (arc_row n d arcs a).holds → Room (arc_row n d arcs a).number (arc_row n d arcs a).place
unfolding arc_row
arc-room n d arcs a h t = fault-room n d (at (d + 2) arcs a) a h t

bucket-room : (R : Req) (j : ℕ) → j < 2 → Room (bucket_row R j).number (bucket_row R j).place
unfolding bucket_row
bucket-room R j h = record { some = omega arith; few = omega arith; near = omega arith }

label-room : (R : Req) → Room (label_row R).number (label_row R).place
unfolding label_row
label-room R = small-room 10 0 tt

module _ (q : Request) (arcs : List ℕ) where
  abbrev R : Req
  R = asked q arcs

  -- at most two criteria have a ratio
  graded-few : weigh (size_rows q.nodes q.criteria q.source q.hops) ≡ clear → (j : ℕ) → j < q.criteria - 1 → j < 2
  graded-few e j l = omega (arith, (sizes-facts q.nodes q.criteria q.source q.hops e).three)

  asks-sound : Sound (ask_rows (asked q arcs))
  unfolding ask_rows
  asks-sound =
      sound-append (size_rows q.nodes q.criteria q.source q.hops) (each (ratio_row q.ratios) (q.criteria - 1))
      (sizes-sound q.nodes q.criteria q.source q.hops)
      (λ e. sound-each (ratio_row q.ratios) (q.criteria - 1) (λ j l _. ratio-room q.ratios j (graded-few e j l)))

  arcs-sound : Sound (arc_rows (asked q arcs))
  unfolding arc_rows arc_count
  arcs-sound = (
    λ _. words-room (length arcs) (q.criteria + 2),
    λ t. sound-each (arc_row q.nodes q.criteria arcs) (arc_count R) (λ a l u. arc-room q.nodes q.criteria arcs a (omega (arith, l, (words-facts (length arcs) (q.criteria + 2) t).1)) u),
  )

  sizes-clear : weigh (ask_rows (asked q arcs) ++ arc_rows (asked q arcs)) ≡ clear → weigh (size_rows q.nodes q.criteria q.source q.hops) ≡ clear
  unfolding ask_rows
  sizes-clear e =
      weigh-clear-front (size_rows q.nodes q.criteria q.source q.hops) (each (ratio_row q.ratios) (q.criteria - 1))
      (weigh-clear-front (ask_rows R) (arc_rows R) e)

  shape-sound : weigh (ask_rows (asked q arcs) ++ arc_rows (asked q arcs)) ≡ clear → Sound (shape_rows (asked q arcs))
  unfolding shape_rows
  shape-sound e =
      sound-append (each (bucket_row R) (q.criteria - 1)) (label_row R ∷ [])
      (sound-each (bucket_row R) (q.criteria - 1) (λ j l _. bucket-room R j (graded-few (sizes-clear e) j l)))
      (λ _. (λ _. label-room R, λ _. tt))

  pub rows-sound : Sound (rows (asked q arcs))
  unfolding rows
  rows-sound =
      sound-append (ask_rows R ++ arc_rows R) (shape_rows R)
      (sound-append (ask_rows R) (arc_rows R) asks-sound (λ _. arcs-sound))
      shape-sound

  build-sound : (a b : ℕ) → Sound (build_rows (asked q arcs) a b)
  unfolding build_rows
  build-sound a b =
      sound_more (rows R) _ rows-sound tt

  -- ---- the tries

  build-clear : (a b : ℕ) → weigh (build_rows (asked q arcs) a b) ≡ clear → Accepted (asked q arcs)
  unfolding build_rows Accepted
  build-clear a b e = weigh-clear-front (rows R) _ e

pub built-answer : (q : Request) (arcs : List ℕ) (a b : ℕ) → Answer (built_said (built_of (asked q arcs) a b))
unfolding built_of
built-answer q arcs a b =
    let n = tries (asked q arcs) q.hops in
    table-answer (λ (w : Weighed). built_said (answer w n)) n refl refusal-answer (build_rows (asked q arcs) a b) (build-sound q arcs a b)
    (λ e. let ok = build-clear q arcs a b e in omega (arith, tries-few (asked q arcs) (accepted-regular (asked q arcs) ok) (accepted-small (asked q arcs) ok) (accepted-fits (asked q arcs) ok)))
