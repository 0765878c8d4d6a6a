-- What sources in memory tell, and when they fail. This project's own.
use Rattle.std.specs.Prelude.{◌≡◌, ◌⊎◌, ◌≢◌, ℕ, Bool, true, false, List, [], Option, None, Some, Contains}
use Rattle.std.specs.Option.{option_map}
use Rattle.std.specs.BTreeMap.{get_by_text}
use Rattle.outside.specs.Outside.{next_call, times}
use Rattle.outside.specs.declared.memory_sources.MemorySources.{MemorySources}

-- sources that never fail
abbrev pub is_sure : MemorySources → Bool
is_sure s = s.sure

-- the numbers of the calls that are to fail
abbrev pub fails_of : MemorySources → List ℕ
fails_of s = s.fails.items

-- how many calls of `read` there were
abbrev pub calls_of : MemorySources → ℕ
calls_of s = s.calls

-- the text that was given to a name
abbrev pub given : MemorySources → List ℕ → Option (List ℕ)
given s name = option_map (λ v. v.items) (get_by_text s.texts name)

-- sources that never fail tell the empty text of a name that they don't have
abbrev pub told_of : Bool → Option (List ℕ) → Option (List ℕ)
told_of true None = Some []
told_of _ o = o

abbrev pub text_of : MemorySources → List ℕ → Option (List ℕ)
text_of s name = told_of (is_sure s) (given s name)

-- how often the name has failed
abbrev pub count_of : MemorySources → List ℕ → ℕ
count_of s name = times name s.failed.items

-- the next read of this name is listed, or the name isn't there
abbrev pub FailsAt : MemorySources → List ℕ → Type 0
FailsAt s name =
    (is_sure s ≡ false) × (Contains (fails_of s) (next_call (calls_of s)) ⊎ (given s name ≡ None))

-- nothing but the texts may differ
pub record SameCalls (before now : MemorySources) : Type 0 where
  pub sure : is_sure now ≡ is_sure before
  pub fails : fails_of now ≡ fails_of before
  pub calls : calls_of now ≡ calls_of before
  pub counts : (name : List ℕ) → count_of now name ≡ count_of before name

abbrev pub SameTexts : MemorySources → MemorySources → Type 0
SameTexts before now = (name : List ℕ) → text_of now name ≡ text_of before name

-- the name has this text now, and each other name has the text that it had
abbrev pub Gives : MemorySources → MemorySources → List ℕ → List ℕ → Type 0
Gives before now name text = (text_of now name ≡ Some text)
    × ((other : List ℕ) → other ≢ name → text_of now other ≡ text_of before other)
