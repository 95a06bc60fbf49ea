-- Document 01, "What the promises have to say" (c): "These stand-ins are shut out", each by one call of `build` on the document's printed example. Assumes nothing.
use Rattle.std.specs.Prelude.{ℕ, ◌≡◌, List, [], ◌∷◌, replicate, Result, Ok, Err}
use contract.Lifetimes.{Lfts}
use denote.Triple.Clauses.{Lasts, at_exit}
use borrow.Fn.Kinds.{Dens, ended_of}
use Rattle.words.specs.Pieces.{part}
use Rattle.request.specs.declared.Request.{Request}
use Rattle.request.specs.declared.Refusal.{Refusal}
use Rattle.request.specs.Request.{asked}
use Rattle.rounds.specs.Rounds.{keep_all}
use Rattle.table.proofs.build

-- the printed example with k hops
unfoldable pub example : ℕ → Request
example k = record { nodes = 4; criteria = 2; source = 0; hops = k; ratios = 1 ∷ 1 ∷ 0 ∷ 1 ∷ [] }

-- its arcs
unfoldable pub tracks : List ℕ
tracks = 0 ∷ 1 ∷ 4 ∷ 5 ∷ 0 ∷ 1 ∷ 6 ∷ 3 ∷ 0 ∷ 2 ∷ 1 ∷ 9 ∷ 1 ∷ 3 ∷ 2 ∷ 2 ∷ 2 ∷ 3 ∷ 6 ∷ 1 ∷ []

-- a call of `build` on it with 5 ladder words and 192 label words, all 0, and an answer with last values that the promise allows
pub record Call (k : ℕ) : Type 0 where
  pub lifetimes : Lfts 3
  pub args : Dens lifetimes build.Kinds.ps
  pub request : args.0 ≡ example k
  pub arcs : args.1.0.now ≡ tracks
  pub ladders : args.1.1.0.now ≡ replicate 5 0
  pub labels : args.1.1.1.0.now ≡ replicate 192 0
  pub answer : Result ℕ Refusal
  pub left : Lasts (ended_of 3 build.Kinds.ps build.Kinds.r) lifetimes args
  pub allowed : build.Reads.Learnt lifetimes args answer (at_exit (ended_of 3 build.Kinds.ps build.Kinds.r) lifetimes args left)

-- the words that it leaves in the ladder buffer
abbrev pub ladders_left : {k : ℕ} → Call k → List ℕ
ladders_left c = c.left.1.1.0

-- and in the label buffer
abbrev pub labels_left : {k : ℕ} → Call k → List ℕ
labels_left c = c.left.1.1.1.0

-- no answer that the promise allows is a stand-in's
pub record ShutOut : Type 0 where
  -- "refusing every request (demand 1, refusals only when listed)"
  pub refusing : (c : Call 2) (r : Refusal) → c.answer ≡ Err r → ⊥
  -- "the same table always (demand 2)": with 2 hops and with none
  pub same_table : (c : Call 2) (e : Call 0) → labels_left c ≡ labels_left e → ⊥
  -- "writing nothing (demands 2 and 3)"
  pub no_labels : (c : Call 2) → labels_left c ≡ c.args.1.1.1.0.now → ⊥
  pub no_ladders : (c : Call 2) → ladders_left c ≡ c.args.1.1.0.now → ⊥
  -- "running round 1 and only keeping afterwards (demand 3, for walks of two arcs)": a layer has 64 words
  pub only_keeping : (c : Call 2) → part (labels_left c) 128 64 ≡ keep_all (asked (example 2) tracks) (part (labels_left c) 64 64) → ⊥
  -- "a tries figure made up (demand 3, equal to the rounds' own count)"
  pub made_up : (c : Call 2) (t : ℕ) → c.answer ≡ Ok t → t ≡ 8
