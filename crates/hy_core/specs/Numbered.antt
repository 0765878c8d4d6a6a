-- The trees of a program with its own numbers of atoms and sites, and the table of its sites. A
-- site is a place at which cells are built: a tuple, a string, each head of a list notation, and a
-- call of `setelement`. All of it is this project's own.
use Rattle.std.specs.Prelude.{ℕ, suc, ◌+◌, Bool, true, false, if◌then◌else◌, List, [], ◌∷◌, map, length, replicate, Option, Some, None}
use Rattle.hy_terms.specs.Naming.{text_of}
use Rattle.hy_core.specs.BuiltIn.{Operation, SetsElement, Spawns, operation_named}
use Rattle.hy_core.specs.Counting.{Counts, Numbering, made, next, at_node, behind, in_definition}
use Rattle.hy_core.specs.Expressions.{function}
use Rattle.hy_core.specs.NameFaults.{modules_of}
use Rattle.hy_core.specs.Resolved.{Pattern, AnyTerm, TheInt, TheAtom, TheNil, TheText, TheTuple, TheList, Alias, Patterns, NoPatterns, MorePatterns}
use Rattle.hy_core.specs.SubPatterns.{patterns_in}
use Rattle.hy_core.specs.Syntax as s
use Rattle.hy_core.specs.Syntax.{Syntax, Syntaxes, NoSyntax, MoreSyntax, Clauses, NoClauses, MoreClauses, Definitions, NoDefinitions, MoreDefinitions, count, pattern_trees, syntax_of, tree}
use Rattle.hy_core.specs.Tables.{program_atoms, renamed, renamed_name}
use Rattle.hy_core.specs.declared.info.SiteInfo.{SiteInfo}
use Rattle.hy_core.specs.declared.info.SiteKind.{SiteKind}
use Rattle.hy_core.specs.declared.info.SiteKind.TheVariants as kind
use Rattle.hy_core.specs.declared.tree.Expr.{Expr}
use Rattle.hy_core.specs.declared.tree.Function.{Function}
use Rattle.hy_core.specs.declared.tree.Module.{Module}
use Rattle.hy_core.specs.declared.tree.Program.{Program}

abbrev pub is_nil : Syntax → Bool
is_nil s.Nil = true
is_nil _ = false

-- nil at the end of a list notation is no node
abbrev pub tail_numbered : Syntax → Numbering Syntax → Numbering Syntax
tail_numbered tail numbering = if is_nil tail then made s.Nil else numbering

abbrev pub atom_of : Syntax → Option ℕ
atom_of (s.Atom a) = Some a
atom_of _ = None

-- the sites of a call's own node
abbrev pub sites_of : Option Operation → List SiteKind
sites_of (Some SetsElement) = kind.Setelement ∷ []
sites_of _ = []

-- the arguments of a `spawn`, or of another call
abbrev pub arguments : Option Operation → (spawned others : Numbering Syntaxes) → Numbering Syntaxes
arguments (Some Spawns) spawned others = spawned
arguments _ spawned others = others

module _ (table : List (List ℕ)) (m : Module) where
  -- a pattern with the program's atoms
  abbrev mutual
    pub renamed_pattern : Pattern → Pattern
    renamed_pattern (AnyTerm x) = AnyTerm x
    renamed_pattern (TheInt n) = TheInt n
    renamed_pattern (TheAtom a) = TheAtom (renamed table m a)
    renamed_pattern TheNil = TheNil
    renamed_pattern (TheText text) = TheText text
    renamed_pattern (TheTuple ps) = TheTuple (renamed_patterns ps)
    renamed_pattern (TheList ps p) = TheList (renamed_patterns ps) (renamed_pattern p)
    renamed_pattern (Alias x p) = Alias x (renamed_pattern p)

    pub renamed_patterns : Patterns → Patterns
    renamed_patterns NoPatterns = NoPatterns
    renamed_patterns (MorePatterns p ps) = MorePatterns (renamed_pattern p) (renamed_patterns ps)

  -- the built-in that a call names, where it is one
  abbrev pub called : (of_module name : Option ℕ) → (arity : ℕ) → Option Operation
  called (Some a) (Some b) arity = operation_named (text_of m.atoms a) (text_of m.atoms b) arity
  called (Some a) None arity = None
  called None b arity = None

  abbrev mutual
    -- an expression of the module with the numbers of the program
    pub numbered : Syntax → Numbering Syntax
    numbered (s.Int n) = at_node [] λ _. made (s.Int n)
    numbered (s.Atom a) = at_node [] λ _. made (s.Atom (renamed table m a))
    numbered s.Nil = at_node [] λ _. made s.Nil
    numbered (s.Str text) = at_node (kind.String ∷ []) λ _. made (s.Str text)
    numbered (s.Var x) = at_node [] λ _. made (s.Var x)
    numbered (s.Name f) = at_node [] λ _. made (s.Name (renamed_name table m f))
    numbered (s.Tuple _ parts) =
        at_node (kind.Tuple ∷ []) λ site. next (all_numbered parts) λ xs. made (s.Tuple site xs)
    numbered (s.ListOf _ heads tail) =
        at_node (replicate (count heads) kind.Cons) λ site. next (all_numbered heads) λ xs.
        next (tail_numbered tail (numbered tail)) λ t. made (s.ListOf site xs t)
    numbered (s.Values parts) = at_node [] λ _. next (all_numbered parts) λ xs. made (s.Values xs)
    numbered (s.Let vars value body) =
        at_node [] λ _. next (numbered value) λ v. next (numbered body) λ b. made (s.Let vars v b)
    numbered (s.Do first second) =
        at_node [] λ _. next (numbered first) λ a. next (numbered second) λ b. made (s.Do a b)
    numbered (s.Case value clauses) =
        at_node [] λ _. next (numbered value) λ v. next (clauses_numbered clauses) λ cs.
        made (s.Case v cs)
    numbered (s.Letrec functions body) =
        at_node [] λ _. next (definitions_numbered functions) λ fs. next (numbered body) λ b.
        made (s.Letrec fs b)
    numbered (s.Apply what args) =
        at_node [] λ _. next (numbered what) λ w. next (all_numbered args) λ xs. made (s.Apply w xs)
    numbered (s.Call x y args) =
        let operation = called (atom_of x) (atom_of y) (count args) in
        at_node (sites_of operation) λ _. next (numbered x) λ a. next (numbered y) λ b.
        next (arguments operation (spawn_numbered args (all_numbered args)) (all_numbered args))
        λ xs.
        made (s.Call a b xs)
    numbered (s.Primop name args) =
        at_node [] λ _. next (all_numbered args) λ xs. made (s.Primop (renamed table m name) xs)
    numbered (s.Receive clauses timeout body) =
        at_node [] λ _. next (clauses_numbered clauses) λ cs. next (numbered timeout) λ t.
        next (numbered body) λ b. made (s.Receive cs t b)
    numbered (s.Try value vars body catch_vars catch_body) =
        at_node [] λ _. next (numbered value) λ v. next (numbered body) λ b.
        next (numbered catch_body) λ c. made (s.Try v vars b catch_vars c)
    numbered (s.Catch body) = at_node [] λ _. next (numbered body) λ b. made (s.Catch b)
    numbered (s.Fun params body) = at_node [] λ _. next (numbered body) λ b. made (s.Fun params b)

    pub all_numbered : Syntaxes → Numbering Syntaxes
    all_numbered NoSyntax = made NoSyntax
    all_numbered (MoreSyntax x xs) =
        next (numbered x) λ y. next (all_numbered xs) λ ys. made (MoreSyntax y ys)

    pub spawn_numbered : Syntaxes → (others : Numbering Syntaxes) → Numbering Syntaxes
    spawn_numbered (MoreSyntax x (MoreSyntax y (MoreSyntax list NoSyntax))) others =
        next (numbered x) λ a. next (numbered y) λ b. next (list_numbered list (numbered list)) λ l.
        made (MoreSyntax a (MoreSyntax b (MoreSyntax l NoSyntax)))
    spawn_numbered _ others = others

    -- the list of a `spawn`: a list notation has no sites there
    pub list_numbered : Syntax → (others : Numbering Syntax) → Numbering Syntax
    list_numbered (s.ListOf _ heads tail) others =
        at_node [] λ _. next (all_numbered heads) λ xs.
        next (tail_numbered tail (numbered tail)) λ t. made (s.ListOf 0 xs t)
    list_numbered _ others = others

    pub clauses_numbered : Clauses → Numbering Clauses
    clauses_numbered NoClauses = made NoClauses
    clauses_numbered (MoreClauses patterns guard body clauses) =
        behind (length (patterns_in (pattern_trees patterns))) (next (numbered guard) λ g.
        next (numbered body) λ b. next (clauses_numbered clauses) λ cs.
        made (MoreClauses (renamed_patterns patterns) g b cs))

    -- each function of a letrec has a number of its own
    pub definitions_numbered : Definitions → Numbering Definitions
    definitions_numbered NoDefinitions = made NoDefinitions
    definitions_numbered (MoreDefinitions f params body functions) =
        next (in_definition (numbered body)) λ b. next (definitions_numbered functions) λ fs.
        made (MoreDefinitions (renamed_name table m f) params b fs)

  -- the declared tree with the numbers of the program
  abbrev pub numbered_tree : Expr → Numbering Expr
  numbered_tree x = next (numbered (syntax_of x)) λ y. made (tree y)

  -- the functions of the module from this number on: nodes from 0 in each, functions of letrecs and
  -- sites from one to the next
  abbrev pub numbered_functions : (function : ℕ) → List Function → Counts → List Function × Counts
  numbered_functions k [] counts = ([], counts)
  numbered_functions k (f ∷ fs) counts =
      let this = numbered_tree f.body k (record counts { node = 0 }) in
      let others = numbered_functions (suc k) fs this.1 in
      (function (renamed_name table m f.name) f.params this.0 ∷ others.0, others.1)

-- modules whose first function has this number; their own tables of atoms are empty
abbrev pub numbered_modules : List (List ℕ) → (function : ℕ) → List Module → Counts
    → List Module × Counts
numbered_modules table k [] counts = ([], counts)
numbered_modules table k (m ∷ ms) counts =
    let these = numbered_functions table m k m.functions counts in
    let others = numbered_modules table (k + length m.functions) ms these.1 in
    let this : Module = record {
      name = renamed table m m.name;
      exports = map (renamed_name table m) m.exports;
      functions = these.0;
      atoms = [];
      variables = m.variables;
    } in
    (this ∷ others.0, others.1)

abbrev pub function_count : List Module → ℕ
function_count [] = 0
function_count (m ∷ ms) = length m.functions + function_count ms

-- the given modules with their numbers, and what is counted behind them
abbrev pub numbered_given : Program → List Module × Counts
numbered_given program =
    let counts : Counts =
    record { node = 0; local = function_count (modules_of program); sites = [] } in
    numbered_modules (program_atoms program) 0 program.given counts

abbrev pub numbered_prelude : Program → List Module × Counts
numbered_prelude program =
    let first = function_count program.given in
    numbered_modules (program_atoms program) first program.prelude (numbered_given program).1

-- the program with its numbers
abbrev pub numbered_program : Program → Program
numbered_program program =
    record { given = (numbered_given program).0; prelude = (numbered_prelude program).0 }

-- the sites of a program in order of their numbers
abbrev pub program_sites : Program → List SiteInfo
program_sites program = (numbered_prelude program).1.sites
