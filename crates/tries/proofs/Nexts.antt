-- From one cell of the tail's block that is neither empty nor kept to the next. Assumes nothing.
use Prim.Native.Nat.{ℕ, ◌+◌, ◌-◌, ◌*◌, ◌<◌}
use mathlib.Core.Path.{◌≡◌, refl, ◌∙◌}
use mathlib.Core.List.{List}
use native.Mathlib.Nat.{le_refl}
use native.Mathlib.Omega.{arith}
use lib.ListN.{length, get_or}
use Rattle.std.specs.Prelude.{Option, Some, None}
use Rattle.words.specs.Pieces.{part, write}
use Rattle.request.specs.Request.{arc_count}
use Rattle.request.specs.Shape.{cells}
use Rattle.rounds.specs.Rounds.{span, try_arc}
use Rattle.rounds.proofs.Ties.{lower-stays}
use Rattle.labels.specs.Words.{FoundAt}
use Rattle.tries.specs.declared.Frame.{Frame}
use Rattle.tries.specs.Tries.{asked_by, made, offered, Extends, Apart, Ranged, Hinted, Fresh}
use Rattle.tries.proofs.Trying.{can-extend, filled-hints, filled-try}
use Rattle.tries.proofs.Arcs.{Reach, reach, quiet-between, full-found, Along, low_first, still, passed_over, one_more, all_words}

-- what `try_arc` asks
pub record Asked (s : Frame) (labels : List ℕ) (from to a low high : ℕ) : Type 0 where
  pub apart : Apart (asked_by s) labels from to a
  pub a_bound : a < arc_count (asked_by s)
  pub ranged : Ranged (asked_by s) (part labels from (span (asked_by s))) low high

-- cell c is one of the range, and filled
pub record Filled (s : Frame) (ls : List ℕ) (from high c : ℕ) : Type 0 where
  pub inside : c < high
  pub full : (o : ℕ) → o ≡ c * s.w → get_or ls (from + o + s.d) 0 ≡ 0 → ⊥

-- the cells before the next one are tried, and it is filled; or all are tried
abbrev pub Standing : Frame → List ℕ → ℕ → ℕ → ℕ → ℕ → ℕ → List ℕ → Option ℕ → Type 0
Standing s labels from to a low high ls (Some c) = Along (asked_by s) labels from to a low high ls c × Filled s ls from high c
Standing s labels from to a low high ls None = Along (asked_by s) labels from to a low high ls high

-- how many cells are left
abbrev pub left : ℕ → Option ℕ → ℕ
left high (Some c) = high - c
left high None = 0

-- over the request that was framed
module _ {s : Frame} {labels : List ℕ} {from to a low high : ℕ} (p : Asked s labels from to a low high) where
  -- how far the words of the cells up to `high` reach
  pub far : Reach s labels from to high
  far = reach s labels from to a low high p.apart p.ranged

  -- at first, those before `low` are tried
  pub first : Along (asked_by s) labels from to a low high labels low
  first = low_first (asked_by s) s.framed.regular (lower-stays s.request.criteria) labels from to a low high p.apart p.a_bound p.ranged

  module _ (ls : List ℕ) (c : ℕ) (g : Along (asked_by s) labels from to a low high ls c) where
    -- the labels are as many words as they came, the blocks stand apart as before, and the range holds
    pub stands : (length ls ≡ length labels) × Apart (asked_by s) ls from to a × Ranged (asked_by s) (part ls from (span (asked_by s))) low high
    stands = still (asked_by s) s.framed.regular (lower-stays s.request.criteria) labels from to a low high p.apart p.a_bound p.ranged ls c g

    -- what is passed over is tried too, as it is quiet, and what is found is filled
    pub next-stands : (next : Option ℕ) → Fresh s.d (part ls from (from + s.span - from)) c high next → Standing s labels from to a low high ls next
    next-stands (Some n) z = (
      passed_over (asked_by s) s.framed.regular (lower-stays s.request.criteria) labels from to a low high p.apart p.a_bound p.ranged ls c g n z.reached (omega (arith, z.inside))
          (quiet-between s ls from to a low high stands.1 stands.2 c n z.between),
      record { inside = z.inside; full = full-found s ls from to a low high stands.1 stands.2 c n z },
    )
    next-stands None z =
        passed_over (asked_by s) s.framed.regular (lower-stays s.request.criteria) labels from to a low high p.apart p.a_bound p.ranged ls c g high g.inside (le_refl high)
        (quiet-between s ls from to a low high stands.1 stands.2 c high z)

    -- cell c is filled, o is where its label lies, and there is a place to look from
    module _ (f : Filled s ls from high c) (o : ℕ) (e : o ≡ c * s.w) (places : List ℕ) (hinted : Hinted (asked_by s) places) where
      in_c : c < cells (asked_by s)
      in_c = omega (arith, p.ranged.inside, f.inside)

      -- so it can be extended
      pub extends : Extends s ls (from + o) to a c places
      extends = can-extend s ls from to a c stands.1 in_c o e p.a_bound places hinted (f.full o e)

      -- once it is extended
      module _ (n : ℕ) (places' : List ℕ) (found : FoundAt s.counts (s.d - 1) s.ladders.now (made s ls (from + o) a c) n places') where
        -- cell c is tried
        pub tried : (ls' : List ℕ) → ls' ≡ write ls to (offered s.d (part ls to s.span) n (made s ls (from + o) a c)) → Along (asked_by s) labels from to a low high ls' (c + 1)
        tried ls' written =
            one_more (asked_by s) s.framed.regular (lower-stays s.request.criteria) labels from to a low high p.apart p.a_bound p.ranged ls c g f.inside ls'
            (written ∙ filled-try s ls from to a c stands.1 in_c o e p.a_bound places hinted (f.full o e) n places' found)

        -- its places are those to look from next
        pub hints : Hinted (asked_by s) places'
        hints = filled-hints s ls from to a c stands.1 in_c o e p.a_bound places hinted (f.full o e) n places' found

  -- all of them
  pub all-tried : (ls : List ℕ) → Along (asked_by s) labels from to a low high ls high → ls ≡ write labels to (try_arc (asked_by s) (part labels from (span (asked_by s))) a (part labels to (span (asked_by s))))
  all-tried ls g = all_words (asked_by s) s.framed.regular (lower-stays s.request.criteria) labels from to a low high p.apart p.a_bound p.ranged ls high g refl
