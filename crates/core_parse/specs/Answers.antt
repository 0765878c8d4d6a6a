-- What the reader answers.
use Rattle.std.specs.Prelude.{◌≡◌, ℕ, Result, Ok, Err}
use Rattle.hy_core.specs.Bytes.{class_of}
use Rattle.hy_core.specs.declared.refusal.RefusalKind.{RefusalKind}
use Rattle.hy_core.specs.declared.token.ByteClass.TheVariants.{Space}
use Rattle.hy_core.specs.declared.tree.Module.{Module}
use Rattle.core_parse.specs.declared.answer.ReadAnswer.{ReadAnswer}
use Rattle.core_parse.specs.declared.answer.ReadAnswer.TheVariants.{Refused, Memory}

abbrev pub IsSpace : ℕ → Type 0
IsSpace b = class_of b ≡ Space

-- a tree, or the kind of a refusal and its place
abbrev pub Verdict : Type 0
Verdict = Result Module (RefusalKind × ℕ)

-- the answer is this verdict, or want of memory
abbrev pub Gives : Result Module ReadAnswer → Verdict → Type 0
Gives (Ok z) v = v ≡ Ok z
Gives (Err (Refused r)) v = v ≡ Err (r.kind, r.place)
Gives (Err Memory) v = Unit {0}

-- where the answer is a refusal, this holds of its kind and its place
abbrev pub IfRefused : Result Module ReadAnswer → (RefusalKind → ℕ → Type 0) → Type 0
IfRefused (Err (Refused r)) Is = Is r.kind r.place
IfRefused _ Is = Unit {0}
