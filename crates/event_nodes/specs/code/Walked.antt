-- The events of a program, found as the code does: one part of the syntax after another.
use Rattle.std.specs.Prelude.{ℕ, ◌+◌, Bool, true, false, if◌then◌else◌, List, [], ◌∷◌, ◌++◌, length}
use Rattle.std.specs.Prelude.{Option, Some}
use Rattle.hy_core.specs.ProgramTrees.{is_event}
use Rattle.hy_core.specs.Resolved.{Patterns}
use Rattle.hy_core.specs.SubPatterns.{patterns_in}
use Rattle.hy_core.specs.Syntax as s
use Rattle.hy_core.specs.Syntax.{Syntax, Syntaxes, NoSyntax, MoreSyntax, syntax_of, pattern_trees}
use Rattle.hy_core.specs.Syntax.{Clauses, NoClauses, MoreClauses, ClauseSyntax}
use Rattle.hy_core.specs.Syntax.{Definitions, NoDefinitions, MoreDefinitions, DefinitionSyntax}
use Rattle.hy_core.specs.declared.tree.Function.{Function}
use Rattle.hy_core.specs.declared.tree.Module.{Module}
use Rattle.core_names.specs.declared.built_in.BuiltIn.{BuiltIn}
use Rattle.core_names.specs.declared.built_in.BuiltIn.TheVariants.{Send, Spawn, Display}
use Rattle.event_nodes.specs.declared.events.Event.{Event}

-- whether a call of this built-in is an event
abbrev pub is_event_of : Option BuiltIn → Bool
is_event_of (Some Send) = true
is_event_of (Some Spawn) = true
is_event_of (Some Display) = true
is_event_of _ = false

-- what is found so far: the number of the next function of a module, the number of the next node in
-- the one that is walked, the number of the next function of a letrec, and the events
pub record Walk : Type 0 where
  pub function : ℕ
  pub node : ℕ
  pub next : ℕ
  pub found : List Event

-- where the first function of a letrec has this number
abbrev pub nothing_found : (next : ℕ) → Walk
nothing_found n = record { function = 0; node = 0; next = n; found = [] }

-- in the next function of a module, or of a letrec
abbrev pub begun : Walk → Walk
begun w = record w { function = w.function + 1; node = 0 }

abbrev pub defined : Walk → Walk
defined w = record w { next = w.next + 1 }

-- with this number of the next function of a letrec
abbrev pub back : (next : ℕ) → Walk → Walk
back n w = record w { next = n }

-- past a node, which may be an event of this function
abbrev pub stepped : Bool → (owner : ℕ) → Walk → Walk
stepped event k w = record w {
  node = w.node + 1;
  found = if event then w.found ++ record { owner = k; node = w.node } ∷ [] else w.found;
}

-- past the nodes of patterns
abbrev pub passed : Patterns → Walk → Walk
passed ps w = record w { node = w.node + length (patterns_in (pattern_trees ps)) }

abbrev pub is_nil : Syntax → Bool
is_nil s.Nil = true
is_nil _ = false

-- atoms: the table of the program
module _ (atoms : List (List ℕ)) where
  abbrev mutual
    -- the parts of an expression, behind its own node
    pub walked_parts : (owner : ℕ) → Walk → Syntax → Walk
    walked_parts k w (s.Tuple site es) = walked_all k w es
    walked_parts k w (s.ListOf site es e) =
        let u = walked_all k w es in
        if is_nil e then u else walked_parts k (stepped (is_event atoms e) k u) e
    walked_parts k w (s.Values es) = walked_all k w es
    walked_parts k w (s.Let xs e b) =
        let u = walked_parts k (stepped (is_event atoms e) k w) e in
        walked_parts k (stepped (is_event atoms b) k u) b
    walked_parts k w (s.Do e b) =
        let u = walked_parts k (stepped (is_event atoms e) k w) e in
        walked_parts k (stepped (is_event atoms b) k u) b
    walked_parts k w (s.Case e cs) =
        walked_clauses k (walked_parts k (stepped (is_event atoms e) k w) e) cs
    walked_parts k w (s.Letrec fs e) =
        let u = walked_definitions w fs in walked_parts k (stepped (is_event atoms e) k u) e
    walked_parts k w (s.Apply e es) =
        walked_all k (back w.next (walked_parts k (stepped (is_event atoms e) k w) e)) es
    walked_parts k w (s.Call m f es) =
        let u = back w.next (walked_parts k (stepped (is_event atoms m) k w) m) in
        walked_all k (back u.next (walked_parts k (stepped (is_event atoms f) k u) f)) es
    walked_parts k w (s.Primop a es) = walked_all k w es
    walked_parts k w (s.Receive cs t e) =
        let u = walked_clauses k w cs in
        let v = back w.next u in
        let x = back u.next (walked_parts k (stepped (is_event atoms t) k v) t) in
        walked_parts k (stepped (is_event atoms e) k x) e
    walked_parts k w (s.Try e xs b ys c) =
        let u = walked_parts k (stepped (is_event atoms e) k w) e in
        let v = back w.next u in
        let x = back w.next (walked_parts k (stepped (is_event atoms b) k v) b) in
        back u.next (walked_parts k (stepped (is_event atoms c) k x) c)
    walked_parts k w (s.Catch e) =
        back w.next (walked_parts k (stepped (is_event atoms e) k w) e)
    walked_parts k w (s.Fun xs e) =
        back w.next (walked_parts k (stepped (is_event atoms e) k w) e)
    walked_parts k w _ = w

    pub walked_all : (owner : ℕ) → Walk → Syntaxes → Walk
    walked_all k w NoSyntax = w
    walked_all k w (MoreSyntax e es) =
        walked_all k (walked_parts k (stepped (is_event atoms e) k w) e) es

    pub walked_clauses : (owner : ℕ) → Walk → Clauses → Walk
    walked_clauses k w NoClauses = w
    walked_clauses k w (MoreClauses ps g b cs) =
        let u = passed ps w in
        let v = walked_parts k (stepped (is_event atoms g) k u) g in
        walked_clauses k (walked_parts k (stepped (is_event atoms b) k v) b) cs

    -- the functions of a letrec, each with the next number
    pub walked_definitions : Walk → Definitions → Walk
    walked_definitions w NoDefinitions = w
    walked_definitions w (MoreDefinitions f xs b fs) =
        walked_definitions
        (walked_parts w.next (stepped (is_event atoms b) w.next (defined w)) b) fs

  -- an expression: its own node, and its parts
  abbrev pub walked : (owner : ℕ) → Walk → Syntax → Walk
  walked k w e = walked_parts k (stepped (is_event atoms e) k w) e

  -- an expression in which functions have no numbers
  abbrev pub aside : (owner : ℕ) → Walk → Syntax → Walk
  aside k w e = back w.next (walked k w e)

  -- the tail of a list notation, where nil is no node
  abbrev pub walked_tail : (owner : ℕ) → Walk → Syntax → Walk
  walked_tail k w e = if is_nil e then w else walked k w e

  abbrev pub walked_clause : (owner : ℕ) → Walk → ClauseSyntax → Walk
  walked_clause k w c = walked k (walked k (passed c.patterns w) c.guard) c.body

  abbrev pub walked_definition : Walk → DefinitionSyntax → Walk
  walked_definition w f = walked w.next (defined w) f.body

  -- the functions of modules
  abbrev pub walked_functions : Walk → List Function → Walk
  walked_functions w [] = w
  walked_functions w (f ∷ fs) =
      walked_functions (walked w.function (begun w) (syntax_of f.body)) fs

  abbrev pub walked_modules : Walk → List Module → Walk
  walked_modules w [] = w
  walked_modules w (m ∷ ms) = walked_modules (walked_functions w m.functions) ms
