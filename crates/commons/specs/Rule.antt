-- The rule of the commons, over the claim word, the written log words, the area words, and one view
-- for each pass that was ever made.
-- It is the project's own.
use Rattle.std.specs.Prelude.{◌≡◌, ◌≢◌, ℕ, suc, ◌+◌, ◌*◌, ◌<◌, ◌≤◌, List, length, slice_index, Option, Some, None, if◌then◌else◌, ◌==◌}
use mathlib.Core.Option.{some}
use lib.ListN.{get_elem?}
use Rattle.hy_words.specs.Lists.{Grown, StartsWith, Has, total}
use Rattle.hy_words.specs.declared.kind.Entry.TheVariants.{Spawn}
use Rattle.hy_words.specs.Words.{tag_of, tag_of_entry}
use Rattle.commons.specs.declared.view.View.{View}
use Rattle.commons.specs.declared.view.Refusal.{Refusal}
use Rattle.commons.specs.Area.{IsWhole, IsClosed}
use Rattle.commons.specs.Log.{header_at, actor_of, own_places, IsLog}
use Rattle.commons.specs.Views.{KnowsCellBy}

-- how many words were written
abbrev pub written : List ℕ → ℕ
written area = total (λ w. if w == 0 then 0 else 1) area

abbrev pub one_if_some : {T : Type 0} → Option T → ℕ
one_if_some None = 0
one_if_some (Some x) = 1

abbrev pub refusals : List View → ℕ
refusals views = total (λ (v : View). one_if_some v.refused) views

abbrev pub unborn : List View → ℕ
unborn views = total (λ (v : View). one_if_some v.unborn) views

abbrev pub requests : List View → ℕ
requests views = total (λ (v : View). v.requests) views

abbrev pub puts : List View → ℕ
puts views = total (λ (v : View). v.puts) views

-- the rest of a block lies below the claim word and the capacity, and is unwritten
pub record HasBlock (area_size claim : ℕ) (area : List ℕ) (start stop : ℕ) : Type 0 where
  pub ordered : start ≤ stop
  pub below : stop ≤ claim
  pub inside : stop ≤ area_size
  pub fresh : (place : ℕ) → start ≤ place → place < stop → slice_index area place ≡ 0

-- the known words begin the log, a told list too; the words that were read or written are those
-- that stand there; known cells are whole
pub record HasKnown (area_size : ℕ) (log area known : List ℕ) (told : Option (List ℕ))
    (seen : List ℕ) : Type 0 where
  pub begins : StartsWith log known
  pub told_begins : (t : List ℕ) → told ≡ Some t → StartsWith log t
  pub wide : length seen ≡ area_size
  pub agrees : Grown seen area
  pub whole : (cell : ℕ) → KnowsCellBy known seen cell → IsWhole area cell

-- the own entries are exactly those that name the pid, and all are known
pub record HasOwn (log area : List ℕ) (pid : ℕ) (own known : List ℕ) : Type 0 where
  pub exact : own ≡ own_places area pid 0 log
  pub own_known : (place : ℕ) → Has own place → place < length known

-- there is a spawn entry at this place of the log
abbrev pub IsSpawnAt : (log area : List ℕ) → ℕ → Type 0
IsSpawnAt log area place =
    (place < length log) × (tag_of (header_at area (slice_index log place)) ≡ tag_of_entry Spawn)

-- a pid is 0 or one more than the place of a spawn entry, an unborn child one more than that of an
-- own one
pub record HasPid (log area : List ℕ) (pid : ℕ) (known own : List ℕ)
    (child : Option ℕ) : Type 0 where
  pub pid_known : pid ≤ length known
  pub own_late : (place : ℕ) → Has own place → pid ≤ place
  pub spawned : (place : ℕ) → pid ≡ suc place → IsSpawnAt log area place
  pub unborn_own : (q : ℕ) → child ≡ Some q → (place : ℕ) × Has own place × (q ≡ place + 1)
      × IsSpawnAt log area place

-- a refused claim lies below the claim word
abbrev pub HasRefusal : (claim : ℕ) → Option Refusal → Type 0
HasRefusal claim refused = (r : Refusal) → refused ≡ Some r → r.old + r.asked ≤ claim

-- what holds of each pass by itself
pub record IsAccount (area_size claim : ℕ) (log area : List ℕ) (v : View) : Type 0 where
  -- parts 1 and 2
  pub block : HasBlock area_size claim area v.block_start v.block_end
  -- part 4
  pub knows : HasKnown area_size log area v.known v.told v.seen
  -- part 5
  pub owns : HasOwn log area v.pid v.own v.known
  -- part 6
  pub names : HasPid log area v.pid v.known v.own v.unborn
  -- part 8
  pub refusal : HasRefusal claim v.refused

-- the unborn child that v names is not w, nor named by w
abbrev pub IsClear : View → View → Type 0
IsClear v w = (q : ℕ) → v.unborn ≡ Some q → (w.pid ≢ q) × (w.unborn ≢ Some q)

-- what holds of two passes
pub record AreApart (v w : View) : Type 0 where
  pub pids : v.pid ≢ w.pid
  pub blocks : (place : ℕ) → v.block_start ≤ place → place < v.block_end → w.block_start ≤ place
      → place < w.block_end → ⊥
  pub clear : IsClear v w
  pub clear_back : IsClear w v

abbrev pub At : List View → ℕ → View → Type 0
At views k v = get_elem? views k ≡ some v

-- the pid is that of a pass
abbrev pub IsActor : List View → ℕ → Type 0
IsActor views pid = (k : ℕ) × (v : View) × At views k v × (pid ≡ v.pid)

-- the actor of the entry one below the pid bore the pass
abbrev pub HasParent : (log area : List ℕ) → List View → View → Type 0
HasParent log area views v =
    (place : ℕ) → v.pid ≡ suc place
    → (j : ℕ) × (u : View) × At views j u × (actor_of area (slice_index log place) ≡ u.pid)
    × Has u.born v.pid

-- the rule, in nine parts, and the count of passes
pub record IsKept (area_size log_size claim : ℕ) (log area : List ℕ)
    (views : List View) : Type 0 where
  -- parts 1, 2, 4, 5, 6 and 8, of each pass by itself
  pub each : (k : ℕ) (v : View) → At views k v → IsAccount area_size claim log area v
  -- parts 1 and 6, of each two
  pub apart : (j k : ℕ) (v w : View) → j ≢ k → At views j v → At views k w → AreApart v w
  -- part 2: all words from the claim word on are unwritten
  pub beyond : (place : ℕ) → claim ≤ place → slice_index area place ≡ 0
  -- part 3
  pub sized : length area ≡ area_size
  pub closed : IsClosed area
  pub entries : IsLog log_size log area
  -- part 6: each pass has a parent, but the first
  pub parents : (k : ℕ) (v : View) → At views k v → HasParent log area views v
  -- part 7: the actor of each entry is a pass
  pub actors : (place : ℕ) → place < length log
      → IsActor views (actor_of area (slice_index log place))
  -- part 8: the claim word is at most the capacity, and once more the largest request for each
  -- refused claim
  pub bound : claim ≤ area_size + (area_size + 1) * refusals views
  -- part 9
  pub all_requests : claim ≡ requests views
  pub all_puts : written area ≡ puts views
  -- there are no more passes, born and unborn, than the first and one for each entry
  pub few : length views + unborn views ≤ 1 + length log
