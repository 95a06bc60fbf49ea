-- Each row of a sheet's form names a refusal. Assumes nothing.
use Prim.Native.Nat.{ℕ}
use mathlib.Core.List.{List}
use Rattle.request.specs.declared.Refusal.TheVariants.{Form, Bytes}
use Rattle.request.proofs.Named.{NamedRows, named-none, named-row, named-of}
use Rattle.sheet.specs.Grammar.{sheet_of}
use Rattle.sheet.specs.Reader.{bad_line, form_rows}

-- rows 12 and 1
pub form-named : (s : List ℕ) → NamedRows (form_rows s)
form-named s = named-row _ _ (λ _. named-of Bytes) (named-row _ _ (λ _. named-of (Form (bad_line (sheet_of s)))) named-none)
