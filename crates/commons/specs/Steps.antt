-- What a pass knows after each kind of step. The project's own.
use Rattle.std.specs.Prelude.{ℕ, ◌+◌, List, [], ◌∷◌, ◌++◌, length, slice_set, replicate, Option, Some, None, if◌then◌else◌, ltb}
use Rattle.commons.specs.declared.view.View.{View}

-- the first pass, before it did anything
abbrev pub first_view : (area_size : ℕ) → View
first_view area_size =
    record {
      pid = 0;
      known = [];
      told = None;
      own = [];
      born = [];
      unborn = None;
      block_start = 0;
      block_end = 0;
      seen = replicate area_size 0;
      looks = 0;
      puts = 0;
      requests = 0;
      refused = None;
    }

-- a claim that fits, and one that is refused
abbrev pub claimed : View → (old n : ℕ) → View
claimed v old n = record v { block_start = old; block_end = old + n; requests = v.requests + n }

abbrev pub refused_claim : View → (old n : ℕ) → View
refused_claim v old n =
    record v { requests = v.requests + n; refused = Some (record { old = old; asked = n }) }

-- n words of the block are no longer free
abbrev pub put_on : View → (n : ℕ) → View
put_on v n = record v { block_start = v.block_start + n; puts = v.puts + n }

-- a store of the next word of the block
abbrev pub wrote : View → ℕ → View
wrote v word = record (put_on v 1) { seen = slice_set v.seen v.block_start word }

-- a load of an area word
abbrev pub read : View → (place word : ℕ) → View
read v place word = record v { seen = slice_set v.seen place word }

-- the known words are these
abbrev pub knowing : View → List ℕ → View
knowing v known = record v { known = known }

-- a load, or a lost compare and exchange, that found the next word of the log
abbrev pub learnt : View → ℕ → View
learnt v word = knowing v (v.known ++ word ∷ [])

-- a load that found no next word of the log; the count of these is this number then
abbrev pub looked : View → (looks : ℕ) → View
looked v looks = record v { looks = looks }

-- a compare and exchange that was won
abbrev pub appended : View → (place word : ℕ) → Option ℕ → View
appended v place word child = record (learnt v word) { own = v.own ++ place ∷ []; unborn = child }

-- a split into a parent and its child
abbrev pub bore : View → ℕ → View
bore v q = record v { unborn = None; born = v.born ++ q ∷ [] }

abbrev pub born_of : View → ℕ → View
born_of v q =
    record v {
      pid = q;
      own = [];
      born = [];
      unborn = None;
      block_start = 0;
      block_end = 0;
      looks = 0;
      puts = 0;
      requests = 0;
      refused = None;
    }

-- a birth that found no memory
abbrev pub gave_up : View → View
gave_up v = record v { unborn = None }

-- a join of what another pass knew, and the load that settles it
abbrev pub told_of : View → List ℕ → View
told_of v t = record v { told = Some t }

abbrev pub or_nil : Option (List ℕ) → List ℕ
or_nil None = []
or_nil (Some t) = t

abbrev pub longer : List ℕ → List ℕ → List ℕ
longer xs ys = if ltb (length xs) (length ys) then ys else xs

abbrev pub settled : View → View
settled v = record (knowing v (longer v.known (or_nil v.told))) { told = None }
