-- Trees of a module at whose nodes no fault holds, as one recursion on their syntax.
use Rattle.std.proofs.Common.{◌≡◌, ℕ, pos, true, List, ◌++◌, length, codes, Option, Some, None}
use Rattle.std.specs.List.{Contains}
use Rattle.std.specs.Ordering.{int_eq}
use Rattle.std.specs.Str.{bytes_eq}
use Rattle.hy_terms.specs.Naming.{text_of}
use Rattle.hy_core.specs.BuiltIn.{Operation, Plain, Spawns, operation_named}
use Rattle.hy_core.specs.KnownTrees.{pattern_count}
use Rattle.hy_core.specs.NameFaults.{IsExported}
use Rattle.hy_core.specs.Nodes.{names_of}
use Rattle.hy_core.specs.Resolve.{are_two_or_three, defined_names, is_match_fail, is_one_variable}
use Rattle.hy_core.specs.Scopes.{Scope, is_bound, with_patterns, with_variables}
use Rattle.hy_core.specs.Syntax as s
use Rattle.hy_core.specs.Syntax.{Syntax, Syntaxes, NoSyntax, MoreSyntax, count}
use Rattle.hy_core.specs.declared.tree.FunName.{FunName}
use Rattle.hy_core.specs.declared.tree.Module.{Module}
use Rattle.hy_core.specs.declared.tree.Program.{Program}

-- how many values the clauses of a `case` are for
abbrev pub width_of : s.Clauses → ℕ
width_of s.NoClauses = 0
width_of (s.MoreClauses ps guard body cs) = pattern_count ps

abbrev pub IsPlain : Option Operation → Type 0
IsPlain (Some (Plain b)) = Unit {0}
IsPlain _ = ⊥

module _ (program : Program) (m : Module) where
  abbrev pub text : ℕ → List ℕ
  text = text_of m.atoms

  abbrev pub named : (a b arity : ℕ) → Option Operation
  named a b arity = operation_named (text a) (text b) arity

  -- it can't be that no module exports the function
  abbrev pub MayCall : (a b arity : ℕ) → Type 0
  MayCall a b arity = (IsExported program (text a) (text b) arity → ⊥) → ⊥

  -- it can't be that neither a letrec around nor the module defines the function
  abbrev pub MayApply : List FunName → FunName → Type 0
  MayApply locals f = (Contains locals f → ⊥) → (Contains (names_of m.functions) f → ⊥) → ⊥

  -- the arguments of a spawn
  abbrev pub SpawnIsFine : Syntaxes → Type 0
  SpawnIsFine (MoreSyntax (s.Atom a) (MoreSyntax (s.Atom b) (MoreSyntax s.Nil NoSyntax))) = MayCall a b 0
  SpawnIsFine (MoreSyntax (s.Atom a) (MoreSyntax (s.Atom b) (MoreSyntax (s.ListOf _ heads s.Nil) NoSyntax))) =
      MayCall a b (count heads)
  SpawnIsFine _ = ⊥

  abbrev pub CallIsFine : Option Operation → (a b : ℕ) → Syntaxes → Type 0
  CallIsFine None a b args = MayCall a b (count args)
  CallIsFine (Some Spawns) a b args = SpawnIsFine args
  CallIsFine (Some _) a b args = Unit {0}

  abbrev pub TimeoutIsFine : Syntax → Type 0
  TimeoutIsFine (s.Int n) = int_eq n (pos 0) ≡ true
  TimeoutIsFine (s.Atom a) = bytes_eq (text a) (codes "infinity") ≡ true
  TimeoutIsFine _ = ⊥

  abbrev mutual
    -- of the forms of guards
    pub IsGuard : Syntax → Type 0
    IsGuard (s.Int n) = Unit {0}
    IsGuard (s.Atom a) = Unit {0}
    IsGuard s.Nil = Unit {0}
    IsGuard (s.Var x) = Unit {0}
    IsGuard (s.Let xs value body) = IsGuard value × IsGuard body
    IsGuard (s.Call (s.Atom a) (s.Atom b) args) = IsPlain (named a b (count args)) × AreGuards args
    IsGuard _ = ⊥

    pub AreGuards : Syntaxes → Type 0
    AreGuards NoSyntax = Unit {0}
    AreGuards (MoreSyntax x xs) = IsGuard x × AreGuards xs

  abbrev mutual
    -- in this scope, under these functions of letrecs, at a place for so many values
    pub IsFine : Scope → (locals : List FunName) → (needs : ℕ) → Syntax → Type 0
    IsFine scope locals needs (s.Int n) = needs ≡ 1
    IsFine scope locals needs (s.Atom a) = needs ≡ 1
    IsFine scope locals needs s.Nil = needs ≡ 1
    IsFine scope locals needs (s.Str text) = needs ≡ 1
    IsFine scope locals needs (s.Var x) = (needs ≡ 1) × (is_bound x scope ≡ true)
    IsFine scope locals needs (s.Tuple _ parts) = (needs ≡ 1) × AreFine scope locals parts
    IsFine scope locals needs (s.ListOf _ heads tail) =
        (needs ≡ 1) × AreFine scope locals heads × IsFine scope locals 1 tail
    IsFine scope locals needs (s.Values parts) = (needs ≡ count parts) × AreFine scope locals parts
    IsFine scope locals needs (s.Let xs value body) =
        IsFine scope locals (length xs) value × IsFine (with_variables scope xs) locals needs body
    IsFine scope locals needs (s.Do first second) =
        IsFine scope locals 1 first × IsFine scope locals needs second
    IsFine scope locals needs (s.Case value clauses) =
        IsFine scope locals (width_of clauses) value
        × ClausesAreFine scope locals (width_of clauses) needs clauses
    IsFine scope locals needs (s.Letrec functions body) =
        let inside = defined_names functions ++ locals in
        FunctionsAreFine scope inside functions × IsFine scope inside needs body
    IsFine scope locals needs (s.Apply (s.Name f) args) =
        (needs ≡ 1) × MayApply locals f × (count args ≡ f.arity) × AreFine scope locals args
    IsFine scope locals needs (s.Call (s.Atom a) (s.Atom b) args) =
        (needs ≡ 1) × CallIsFine (named a b (count args)) a b args × AreFine scope locals args
    IsFine scope locals needs (s.Primop name args) =
        (is_match_fail (text name) (count args) ≡ true) × AreFine scope locals args
    IsFine scope locals needs (s.Receive clauses timeout body) =
        ClausesAreFine scope locals 1 needs clauses × TimeoutIsFine timeout
        × IsFine scope locals needs body
    IsFine scope locals needs _ = ⊥

    pub AreFine : Scope → List FunName → Syntaxes → Type 0
    AreFine scope locals NoSyntax = Unit {0}
    AreFine scope locals (MoreSyntax x xs) = IsFine scope locals 1 x × AreFine scope locals xs

    -- the guard form of `try` as its first part
    pub GuardIsFine : Scope → List FunName → Syntax → Type 0 → Type 0
    GuardIsFine scope locals (s.Try value vars (s.Var x) catch_vars (s.Atom a)) otherwise =
        ((is_one_variable vars x ≡ true) × (are_two_or_three catch_vars ≡ true)
        × (bytes_eq (text a) (codes "false") ≡ true)) × IsGuard value × IsFine scope locals 1 value
    GuardIsFine scope locals guard otherwise = IsGuard guard × otherwise

    pub ClausesAreFine : Scope → List FunName → (values needs : ℕ) → s.Clauses → Type 0
    ClausesAreFine scope locals values needs s.NoClauses = Unit {0}
    ClausesAreFine scope locals values needs (s.MoreClauses ps guard body clauses) =
        let inside = with_patterns scope ps in
        (pattern_count ps ≡ values) × GuardIsFine inside locals guard (IsFine inside locals 1 guard)
        × IsFine inside locals needs body × ClausesAreFine scope locals values needs clauses

    pub FunctionsAreFine : Scope → List FunName → s.Definitions → Type 0
    FunctionsAreFine scope locals s.NoDefinitions = Unit {0}
    FunctionsAreFine scope locals (s.MoreDefinitions f xs body functions) =
        (length xs ≡ f.arity) × IsFine (with_variables scope xs) locals 1 body
        × FunctionsAreFine scope locals functions
