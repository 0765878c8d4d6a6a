-- Of trees at whose nodes no fault holds all is known once they are numbered and resolved.
use Rattle.std.proofs.Common.{◌≡◌, ◌==◌, ℕ, suc, eqb-true, true, false, true≢false, ◌&&◌, if◌then◌else◌, Bool, List, [], ◌∷◌, ◌++◌, length, map, codes, Option, Some, None, refl, sym, ap, ◌∙◌, subst}
use Rattle.std.proofs.lemmas.Bool.{and_parts}
use Rattle.std.proofs.lemmas.List.{map-append}
use Rattle.std.specs.List.{Contains}
use Rattle.std.specs.Str.{bytes_eq}
use Rattle.hy_terms.specs.Naming.{text_of}
use Rattle.hy_core.specs.BuiltIn.{Operation, Plain, SetsElement, Sends, Spawns, Displays, RaisesAs, operation_named, operation_of}
use Rattle.hy_core.specs.Counting.{Counts, Numbering, next, at_node, made}
use Rattle.hy_core.specs.FullRun.{names_of as names_of_program}
use Rattle.hy_core.specs.KnownTrees.{Answers, Takes, HasGuardForms, HaveGuardForms, IsKnown, AreKnown, ClausesAreKnown, FunctionsAreKnown, defined, pattern_count, width}
use Rattle.hy_core.specs.Nodes.{names_of}
use Rattle.hy_core.specs.Numbered.{all_numbered, arguments, clauses_numbered, definitions_numbered, is_nil, numbered, renamed_pattern, renamed_patterns, sites_of, spawn_numbered, tail_numbered}
use Rattle.hy_core.specs.Resolve.{Names, applied_head, call_of, defined_names, function_called, function_head, function_number, is_local, is_match_fail, name_with, named_call, received, resolve, resolve_all, resolve_clauses, resolve_definitions, resolve_guard, resolve_spawn, spawn_head, timeout_of}
use Rattle.hy_core.specs.Resolved as r
use Rattle.hy_core.specs.Resolved.{Head, Expression, Expressions, Pattern, AnyTerm, TheInt, TheAtom, TheNil, TheText, TheTuple, TheList, Alias, Patterns, NoPatterns, MorePatterns}
use Rattle.hy_core.specs.Scopes.{Scope, with_pattern, with_patterns, with_variables}
use Rattle.hy_core.specs.Supplied.{expression_count}
use Rattle.hy_core.specs.Syntax as s
use Rattle.hy_core.specs.Syntax.{Syntax, Syntaxes, NoSyntax, MoreSyntax, count}
use Rattle.hy_core.specs.Tables.{program_atoms, renamed, renamed_name}
use Rattle.hy_core.specs.declared.bif.Bif.{Bif}
use Rattle.hy_core.specs.declared.tree.FunName.{FunName}
use Rattle.hy_core.specs.declared.tree.Module.{Module}
use Rattle.hy_core.specs.declared.tree.Program.{Program}
use Rattle.hy_core.proofs.Arities.{answers_its_arguments, arguments_of, operation_arity}
use Rattle.core_accepted.proofs.FineTrees.{AreFine, AreGuards, CallIsFine, ClausesAreFine, FunctionsAreFine, GuardIsFine, IsFine, IsGuard, IsPlain, MayApply, MayCall, SpawnIsFine, TimeoutIsFine, named, width_of}

-- operations

if_true : {A : Type 0} (b : Bool) (x y z : A) → (if b then x else y) ≡ z → (b ≡ false → y ≡ z → ⊥) → x ≡ z
if_true true x y z e other = e
if_true false x y z e other = absurd (other refl e)

erlang_operation_is : (t u : List ℕ) (n : ℕ) (o : Operation) → operation_named t u n ≡ Some o → operation_of u n ≡ Some o
erlang_operation_is t u n o e = if_true (bytes_eq t (codes "erlang")) (operation_of u n) None (Some o) e (λ b none. cc)

arity_named : (t u : List ℕ) (n : ℕ) (o : Operation) → operation_named t u n ≡ Some o → n ≡ arguments_of o
arity_named t u n o e = operation_arity u n o (erlang_operation_is t u n o e)

answers_named : (t u : List ℕ) (n : ℕ) (f : Bif) → operation_named t u n ≡ Some (Plain f) → Answers f n
answers_named t u n f e atoms pid ts l none =
    (answers_its_arguments atoms pid u n f (erlang_operation_is t u n (Plain f) e) ts).0 none l

-- a function that is found takes so many arguments
abbrev pub Found : (arities : List ℕ) → Option ℕ → (arguments : ℕ) → Type 0
Found arities None n = ⊥
Found arities (Some k) n = Takes arities k n

module _ (program : Program) (m : Module) (arities : List ℕ) where
  abbrev pub table : List (List ℕ)
  table = program_atoms program

  abbrev pub names : Names
  names = names_of_program program

  abbrev pub number : ℕ → ℕ
  number = renamed table m

  abbrev pub name : FunName → FunName
  name = renamed_name table m

  abbrev pub current : ℕ
  current = number m.name

  -- what the program's names are to the module's
  pub record NamesAgree : Type 0 where
    pub texts : (a : ℕ) (x : ℕ) (xs : List ℕ) → bytes_eq (text_of m.atoms a) (x ∷ xs) ≡ true
        → bytes_eq (text_of table (number a)) (x ∷ xs) ≡ true
    pub operations : (a b n : ℕ) → operation_named (text_of table (number a)) (text_of table (number b)) n ≡ named program m a b n
    pub called : (a b n : ℕ) → MayCall program m a b n → Found arities (function_number names.functions (number a) (name_with (number b) n)) n
    pub applied : (f : FunName) → ((Contains (names_of m.functions) f → ⊥) → ⊥) → Found arities (function_number names.functions current (name f)) f.arity
    pub around : (f : FunName) (locals : List FunName) → Contains locals f → is_local (name f) (map name locals) ≡ true

  module _ (agree : NamesAgree) where
    -- numbers of parts

    pub count_numbered : (xs : Syntaxes) (k : ℕ) (c : Counts) → count (all_numbered table m xs k c).0 ≡ count xs
    count_numbered NoSyntax k c = refl
    count_numbered (MoreSyntax x xs) k c = ap suc (count_numbered xs k (numbered table m x k c).1)

    pub count_resolved : (xs : Syntaxes) (locals : List FunName) → expression_count (resolve_all names current xs locals) ≡ count xs
    count_resolved NoSyntax locals = refl
    count_resolved (MoreSyntax x xs) locals = ap suc (count_resolved xs locals)

    count_of : (xs : Syntaxes) (k : ℕ) (c : Counts) (locals : List FunName) → expression_count (resolve_all names current (all_numbered table m xs k c).0 locals) ≡ count xs
    count_of xs k c locals = count_resolved (all_numbered table m xs k c).0 locals ∙ count_numbered xs k c

    patterns_counted : (ps : Patterns) → pattern_count (renamed_patterns table m ps) ≡ pattern_count ps
    patterns_counted NoPatterns = refl
    patterns_counted (MorePatterns p ps) = ap suc (patterns_counted ps)

    mutual
      pattern_scope : (p : Pattern) (scope : Scope) → with_pattern scope (renamed_pattern table m p) ≡ with_pattern scope p
      pattern_scope (AnyTerm x) scope = refl
      pattern_scope (TheInt n) scope = refl
      pattern_scope (TheAtom a) scope = refl
      pattern_scope TheNil scope = refl
      pattern_scope (TheText text) scope = refl
      pattern_scope (TheTuple ps) scope = patterns_scope ps scope
      pattern_scope (TheList ps p) scope = ap (λ scope. with_pattern scope (renamed_pattern table m p)) (patterns_scope ps scope) ∙ pattern_scope p (with_patterns scope ps)
      pattern_scope (Alias x p) scope = pattern_scope p (x ∷ scope)

      patterns_scope : (ps : Patterns) (scope : Scope) → with_patterns scope (renamed_patterns table m ps) ≡ with_patterns scope ps
      patterns_scope NoPatterns scope = refl
      patterns_scope (MorePatterns p ps) scope = ap (λ scope. with_patterns scope (renamed_patterns table m ps)) (pattern_scope p scope) ∙ patterns_scope ps (with_pattern scope p)

    width_is : (cs : s.Clauses) (k : ℕ) (c : Counts) (locals : List FunName) → width (resolve_clauses names current (clauses_numbered table m cs k c).0 locals) ≡ width_of cs
    width_is s.NoClauses k c locals = refl
    width_is (s.MoreClauses ps guard body cs) k c locals = patterns_counted ps

    defined_numbered : (fs : s.Definitions) (k : ℕ) (c : Counts) → defined_names (definitions_numbered table m fs k c).0 ≡ map name (defined_names fs)
    defined_numbered s.NoDefinitions k c = refl
    defined_numbered (s.MoreDefinitions f xs body fs) k c =
        ap (λ gs. name f ∷ gs) (defined_numbered fs k (numbered table m body c.local (record c { local = suc c.local })).1)

    defined_resolved : (fs : s.Definitions) (locals : List FunName) → defined (resolve_definitions names current fs locals) ≡ defined_names fs
    defined_resolved s.NoDefinitions locals = refl
    defined_resolved (s.MoreDefinitions f xs body fs) locals = ap (λ gs. f ∷ gs) (defined_resolved fs locals)

    -- calls

    module _ (scope : Scope) (locals : List FunName) (needs : ℕ) (one : needs ≡ 1) where
      abbrev Known : Expression → Type 0
      Known = IsKnown arities scope (map name locals) needs

      abbrev Parts : Expressions → Type 0
      Parts = AreKnown arities scope (map name locals)

      function_known : (found : Option ℕ) (n : ℕ) (es : Expressions) → Found arities found n → expression_count es ≡ n → Parts es → Known (call_of (function_head found) es)
      function_known (Some k) n es h is parts = (one, subst (Takes arities k) (sym is) h, parts)
      function_known None n es h is parts = absurd h

      spawn_known : (found : Option ℕ) (n : ℕ) (es : Expressions) → Found arities found n → expression_count es ≡ n → Parts es → Known (call_of (spawn_head found) es)
      spawn_known (Some k) n es h is parts = (one, subst (Takes arities k) (sym is) h, parts)
      spawn_known None n es h is parts = absurd h

      -- an applied name
      applied_known : (f : FunName) (es : Expressions) → MayApply program m locals f → expression_count es ≡ f.arity → Parts es
          → Known (call_of (applied_head names current (name f) (map name locals)) es)
      applied_known f es may is parts = by (is_local (name f) (map name locals)) refl
        where
          by : (b : Bool) → is_local (name f) (map name locals) ≡ b
              → Known (call_of (if b then Some (r.Local (name f)) else function_head (function_number names.functions current (name f))) es)
          by true e = (one, (e, sym is), parts)
          by false e =
              let outside : Contains locals f → ⊥ = λ h. true≢false (sym (agree.around f locals h) ∙ e) in
              function_known (function_number names.functions current (name f)) f.arity es (agree.applied f (may outside)) is parts

      -- a call of a built-in other than a spawn, or of a function
      plain_known : (o : Option Operation) (a b n : ℕ) (es : Expressions) (spawned : Expression) → named program m a b n ≡ o → (o ≡ Some Spawns → ⊥)
          → (o ≡ None → MayCall program m a b n) → expression_count es ≡ n → Parts es → Known (named_call names current (number a) (number b) n o es spawned)
      plain_known None a b n es spawned e other may is parts =
          function_known (function_called names current (number a) (number b) n) n es (agree.called a b n (may refl)) is parts
      plain_known (Some (Plain f)) a b n es spawned e other may is parts =
          (one, subst (Answers f) (sym is) (answers_named (text_of m.atoms a) (text_of m.atoms b) n f e), parts)
      plain_known (Some SetsElement) a b n es spawned e other may is parts = (one, is ∙ arity_named (text_of m.atoms a) (text_of m.atoms b) n SetsElement e, parts)
      plain_known (Some Sends) a b n es spawned e other may is parts = (one, is ∙ arity_named (text_of m.atoms a) (text_of m.atoms b) n Sends e, parts)
      plain_known (Some Spawns) a b n es spawned e other may is parts = absurd (other refl)
      plain_known (Some Displays) a b n es spawned e other may is parts = (one, is ∙ arity_named (text_of m.atoms a) (text_of m.atoms b) n Displays e, parts)
      plain_known (Some (RaisesAs class)) a b n es spawned e other may is parts = (one, is ∙ arity_named (text_of m.atoms a) (text_of m.atoms b) n (RaisesAs class) e, parts)

    -- how the arguments of a call are numbered
    abbrev pub args_of : Option Operation → Syntaxes → Numbering Syntaxes
    args_of o xs = arguments o (spawn_numbered table m xs (all_numbered table m xs)) (all_numbered table m xs)

    pub not_spawned : (o : Option Operation) (xs : Syntaxes) → (o ≡ Some Spawns → ⊥) → args_of o xs ≡ all_numbered table m xs
    not_spawned None xs h = refl
    not_spawned (Some Spawns) xs h = absurd (h refl)
    not_spawned (Some (Plain b)) xs h = refl
    not_spawned (Some SetsElement) xs h = refl
    not_spawned (Some Sends) xs h = refl
    not_spawned (Some Displays) xs h = refl
    not_spawned (Some (RaisesAs class)) xs h = refl

    -- guards

    mutual
      guard_known : (x : Syntax) (locals : List FunName) → IsGuard program m x → (k : ℕ) (c : Counts) → HasGuardForms (resolve names current (numbered table m x k c).0 locals)
      guard_known (s.Int n) locals h k c = tt
      guard_known (s.Atom a) locals h k c = tt
      guard_known s.Nil locals h k c = tt
      guard_known (s.Var x) locals h k c = tt
      guard_known (s.Let xs value body) locals h k c = (guard_known value locals h.0 k _, guard_known body locals h.1 k _)
      guard_known (s.Call (s.Atom a) (s.Atom b) args) locals h k c = by (named program m a b (count args)) refl h.0 (λ c. guards_known args locals h.1 k c)
        where
          by : (o : Option Operation) → named program m a b (count args) ≡ o → IsPlain o → ((c : Counts) → HaveGuardForms (resolve_all names current (all_numbered table m args k c).0 locals))
              → HasGuardForms (resolve names current (at_node (sites_of o) (λ _. next (numbered table m (s.Atom a)) λ x. next (numbered table m (s.Atom b)) λ y. next (args_of o args) λ xs. made (s.Call x y xs)) k c).0 locals)
          by (Some (Plain f)) e plain parts =
              let xs = (all_numbered table m args k _).0 in
              let same : operation_named (text_of table (number a)) (text_of table (number b)) (count xs) ≡ Some (Plain f)
              = ap (λ n. operation_named (text_of table (number a)) (text_of table (number b)) n) (count_numbered args k _) ∙ agree.operations a b (count args) ∙ e in
              subst (λ o. HasGuardForms (named_call names current (number a) (number b) (count xs) o (resolve_all names current xs locals) (resolve_spawn names current xs locals))) (sym same)
              (parts _)
          by _ e plain parts = absurd plain
      guard_known _ locals h k c = absurd h

      guards_known : (xs : Syntaxes) (locals : List FunName) → AreGuards program m xs → (k : ℕ) (c : Counts) → HaveGuardForms (resolve_all names current (all_numbered table m xs k c).0 locals)
      guards_known NoSyntax locals h k c = tt
      guards_known (MoreSyntax x xs) locals h k c = (guard_known x locals h.0 k c, guards_known xs locals h.1 k _)

    -- behind a node without sites
    abbrev past : Counts → Counts
    past c = record { node = suc c.node; local = c.local; sites = c.sites ++ [] }

    -- timeouts

    pub timeout_is : (x : Syntax) → TimeoutIsFine program m x → (k : ℕ) (c : Counts) (cs : r.Clauses) (e : Expression) (P : Expression → Type 0)
        → ((t : r.Timeout) → P (r.Receive cs t e)) → P (received cs (timeout_of names current (numbered table m x k c).0) e)
    timeout_is (s.Int n) h k c cs e P all = subst (λ b. P (received cs (if b then Some r.AtOnce else None) e)) (sym h) (all r.AtOnce)
    timeout_is (s.Atom a) h k c cs e P all = subst (λ b. P (received cs (if b then Some r.Never else None) e)) (sym (agree.texts a _ _ h)) (all r.Never)
    timeout_is _ h k c cs e P all = absurd h

    pub both_hold : (v w u : Bool) → v ≡ true → w ≡ true → u ≡ true → (v && (w && u)) ≡ true
    both_hold v w u p q o = λ i. p i && (q i && o i)

    -- the end of a list notation
    tail_known : (x : Syntax) (scope : Scope) (locals : List FunName) (numbering : Numbering Syntax) (k : ℕ) (c : Counts)
        → IsKnown arities scope locals 1 (resolve names current (numbering k c).0 locals)
        → IsKnown arities scope locals 1 (resolve names current (tail_numbered x numbering k c).0 locals)
    tail_known x scope locals numbering k c h = by (is_nil x)
      where
        by : (b : Bool) → IsKnown arities scope locals 1 (resolve names current ((if b then made s.Nil else numbering) k c).0 locals)
        by true = refl
        by false = h

    -- what is known of a call, from what is known of its arguments

    pub count_spawned : (xs : Syntaxes) (k : ℕ) (c : Counts) → count (spawn_numbered table m xs (all_numbered table m xs) k c).0 ≡ count xs
    count_spawned (MoreSyntax x (MoreSyntax y (MoreSyntax z NoSyntax))) k c = refl
    count_spawned xs k c = count_numbered xs k c

    module _ (scope : Scope) (locals : List FunName) (needs : ℕ) (one : needs ≡ 1) (a b : ℕ) (args : Syntaxes) where
      abbrev called_as : Option Operation → Numbering Syntaxes → Numbering Syntax
      called_as o numbering =
          at_node (sites_of o) λ _. next (numbered table m (s.Atom a)) λ x. next (numbered table m (s.Atom b)) λ y. next numbering λ xs. made (s.Call x y xs)

      abbrev IsKnownCall : Option Operation → ℕ → Counts → Numbering Syntaxes → Type 0
      IsKnownCall o k c numbering = IsKnown arities scope (map name locals) needs (resolve names current (called_as o numbering k c).0 (map name locals))

      -- the operation of the program's names, where the arguments stay as many
      same_named : (o : Option Operation) (n : ℕ) → n ≡ count args → named program m a b (count args) ≡ o
          → operation_named (text_of table (number a)) (text_of table (number b)) n ≡ o
      same_named o n is e = ap (λ n. operation_named (text_of table (number a)) (text_of table (number b)) n) is ∙ agree.operations a b (count args) ∙ e

      by_operation : (o : Option Operation) (xs : Syntaxes) → count xs ≡ count args → named program m a b (count args) ≡ o
          → IsKnown arities scope (map name locals) needs (named_call names current (number a) (number b) (count xs) o (resolve_all names current xs (map name locals)) (resolve_spawn names current xs (map name locals)))
          → IsKnown arities scope (map name locals) needs (resolve names current (s.Call (s.Atom (number a)) (s.Atom (number b)) xs) (map name locals))
      by_operation o xs is e h =
          subst (λ o. IsKnown arities scope (map name locals) needs (named_call names current (number a) (number b) (count xs) o (resolve_all names current xs (map name locals)) (resolve_spawn names current xs (map name locals))))
          (sym (same_named o (count xs) is e)) h

      may_of : (o : Option Operation) → CallIsFine program m o a b args → o ≡ None → MayCall program m a b (count args)
      may_of None h e = h
      may_of (Some o) h e = absurd cc

      other_at : (o : Option Operation) → (o ≡ Some Spawns → ⊥) → named program m a b (count args) ≡ o → CallIsFine program m o a b args → (xs : Syntaxes) → count xs ≡ count args
          → AreKnown arities scope (map name locals) (resolve_all names current xs (map name locals))
          → IsKnown arities scope (map name locals) needs (resolve names current (s.Call (s.Atom (number a)) (s.Atom (number b)) xs) (map name locals))
      other_at o other e fine xs is parts =
          let es = resolve_all names current xs (map name locals) in
          let spawned = resolve_spawn names current xs (map name locals) in
          by_operation o xs is e
          (subst (λ n. IsKnown arities scope (map name locals) needs (named_call names current (number a) (number b) n o es spawned)) (sym is)
          (plain_known scope locals needs one o a b (count args) es spawned e other (may_of o fine) (count_resolved xs (map name locals) ∙ is) parts))

      other_call : (o : Option Operation) → (o ≡ Some Spawns → ⊥) → named program m a b (count args) ≡ o → CallIsFine program m o a b args
          → ((k : ℕ) (c : Counts) → AreKnown arities scope (map name locals) (resolve_all names current (all_numbered table m args k c).0 (map name locals)))
          → (k : ℕ) (c : Counts) → IsKnownCall o k c (args_of o args)
      other_call o other e fine parts k c =
          let after : Counts = (at_node (sites_of o) (λ _. next (numbered table m (s.Atom a)) λ x. numbered table m (s.Atom b)) k c).1 in
          subst (IsKnownCall o k c) (sym (not_spawned o args other))
          (other_at o other e fine (all_numbered table m args k after).0 (count_numbered args k after) (parts k after))

      call_known : (o : Option Operation) → named program m a b (count args) ≡ o → CallIsFine program m o a b args
          → ((k : ℕ) (c : Counts) → AreKnown arities scope (map name locals) (resolve_all names current (all_numbered table m args k c).0 (map name locals)))
          → (SpawnIsFine program m args → (k : ℕ) (c : Counts) → IsKnown arities scope (map name locals) needs (resolve_spawn names current (spawn_numbered table m args (all_numbered table m args) k c).0 (map name locals)))
          → (k : ℕ) (c : Counts) → IsKnownCall o k c (args_of o args)
      call_known (Some Spawns) e fine parts spawned k c =
          let after : Counts = (at_node [] (λ _. next (numbered table m (s.Atom a)) λ x. numbered table m (s.Atom b)) k c).1 in
          by_operation (Some Spawns) (spawn_numbered table m args (all_numbered table m args) k after).0 (count_spawned args k after) e (spawned fine k after)
      call_known None e fine parts spawned k c = other_call None (λ is. cc) e fine parts k c
      call_known (Some (Plain f)) e fine parts spawned k c = other_call (Some (Plain f)) (λ is. cc) e fine parts k c
      call_known (Some SetsElement) e fine parts spawned k c = other_call (Some SetsElement) (λ is. cc) e fine parts k c
      call_known (Some Sends) e fine parts spawned k c = other_call (Some Sends) (λ is. cc) e fine parts k c
      call_known (Some Displays) e fine parts spawned k c = other_call (Some Displays) (λ is. cc) e fine parts k c
      call_known (Some (RaisesAs class)) e fine parts spawned k c = other_call (Some (RaisesAs class)) (λ is. cc) e fine parts k c

    primop_known : (scope : Scope) (locals : List FunName) (needs a n : ℕ) (xs : Syntaxes) → count xs ≡ n → is_match_fail (text_of m.atoms a) n ≡ true
        → AreKnown arities scope locals (resolve_all names current xs locals) → IsKnown arities scope locals needs (resolve names current (s.Primop (number a) xs) locals)
    primop_known scope locals needs a n xs is h parts =
        let both = and_parts (bytes_eq (text_of m.atoms a) (codes "match_fail")) (n == 1) h in
        let holds : is_match_fail (text_of table (number a)) (count xs) ≡ true
        = λ i. agree.texts a _ _ both.0 i && (ap (λ n. n == 1) is ∙ both.1) i in
        subst (λ b. IsKnown arities scope locals needs (if b then r.Call r.MatchFail (resolve_all names current xs locals) else r.Refused)) (sym holds)
        (tt, (count_resolved xs locals ∙ is ∙ eqb-true n 1 both.1), parts)

    pub inside_is : (functions : s.Definitions) (locals : List FunName) (k : ℕ) (c : Counts)
        → map name (defined_names functions ++ locals) ≡ defined_names (definitions_numbered table m functions k c).0 ++ map name locals
    inside_is functions locals k c = map-append name (defined_names functions) locals ∙ ap (λ gs. gs ++ map name locals) (sym (defined_numbered functions k c))

    letrec_known : (functions : s.Definitions) (body : Syntax) (scope : Scope) (locals : List FunName) (needs k : ℕ) (c : Counts)
        → (let inside = map name (defined_names functions ++ locals) in
        FunctionsAreKnown arities scope inside (resolve_definitions names current (definitions_numbered table m functions k c).0 inside)
        × IsKnown arities scope inside needs (resolve names current (numbered table m body k (definitions_numbered table m functions k c).1).0 inside))
        → IsKnown arities scope (map name locals) needs (resolve names current (s.Letrec (definitions_numbered table m functions k c).0 (numbered table m body k (definitions_numbered table m functions k c).1).0) (map name locals))
    letrec_known functions body scope locals needs k c h =
        let fs = (definitions_numbered table m functions k c).0 in
        let x = (numbered table m body k (definitions_numbered table m functions k c).1).0 in
        let start = map name (defined_names functions ++ locals) in
        let inside = defined_names fs ++ map name locals in
        let same : start ≡ inside = inside_is functions locals k c in
        let same_too : start ≡ defined (resolve_definitions names current fs inside) ++ map name locals = same ∙ ap (λ gs. gs ++ map name locals) (sym (defined_resolved fs inside)) in
        subst (λ around. FunctionsAreKnown arities scope around (resolve_definitions names current fs inside) × IsKnown arities scope around needs (resolve names current x inside)) same_too
        (subst (λ around. FunctionsAreKnown arities scope start (resolve_definitions names current fs around) × IsKnown arities scope start needs (resolve names current x around)) same h)

    case_known : (scope : Scope) (locals : List FunName) (needs : ℕ) (e : Expression) (cs : s.Clauses) (k : ℕ) (c : Counts) → IsKnown arities scope locals (width_of cs) e
        → ClausesAreKnown arities scope locals (width_of cs) needs (resolve_clauses names current (clauses_numbered table m cs k c).0 locals)
        → IsKnown arities scope locals needs (r.Case e (resolve_clauses names current (clauses_numbered table m cs k c).0 locals))
    case_known scope locals needs e cs k c h g =
        let read = resolve_clauses names current (clauses_numbered table m cs k c).0 locals in
        subst (λ n. IsKnown arities scope locals n e × ClausesAreKnown arities scope locals n needs read) (sym (width_is cs k c locals)) (h, g)

    in_patterns : (scope : Scope) (ps : Patterns) (locals : List FunName) (needs : ℕ) (e : Expression) → IsKnown arities (with_patterns scope ps) locals needs e
        → IsKnown arities (with_patterns scope (renamed_patterns table m ps)) locals needs e
    in_patterns scope ps locals needs e h = subst (λ scope. IsKnown arities scope locals needs e) (sym (patterns_scope ps scope)) h

    pub guard_map : (guard : Syntax) (scope : Scope) (locals : List FunName) (A B : Type 0) → (A → B) → GuardIsFine program m scope locals guard A → GuardIsFine program m scope locals guard B
    guard_map (s.Try value vars (s.Var x) catch_vars (s.Atom a)) scope locals A B f h = h
    guard_map guard scope locals A B f h = (h.0, f h.1)

    mutual
      pub known : (x : Syntax) (scope : Scope) (locals : List FunName) (needs : ℕ) → IsFine program m scope locals needs x → (k : ℕ) (c : Counts)
          → IsKnown arities scope (map name locals) needs (resolve names current (numbered table m x k c).0 (map name locals))
      known (s.Int n) scope locals needs h k c = h
      known (s.Atom a) scope locals needs h k c = h
      known s.Nil scope locals needs h k c = h
      known (s.Str text) scope locals needs h k c = h
      known (s.Var x) scope locals needs h k c = h
      known (s.Tuple _ parts) scope locals needs h k c = (h.0, all_known parts scope locals h.1 k _)
      known (s.ListOf _ heads tail) scope locals needs h k c =
          (h.0, all_known heads scope locals h.1 k _, tail_known tail scope (map name locals) (numbered table m tail) k _ (known tail scope locals 1 h.2 k _))
      known (s.Values parts) scope locals needs h k c = (h.0 ∙ sym (count_of parts k _ (map name locals)), all_known parts scope locals h.1 k _)
      known (s.Let xs value body) scope locals needs h k c = (known value scope locals (length xs) h.0 k _, known body (with_variables scope xs) locals needs h.1 k _)
      known (s.Do first second) scope locals needs h k c = (known first scope locals 1 h.0 k _, known second scope locals needs h.1 k _)
      known (s.Case value clauses) scope locals needs h k c =
          case_known scope (map name locals) needs _ clauses k _ (known value scope locals (width_of clauses) h.0 k _)
          (clauses_known clauses scope locals (width_of clauses) needs h.1 k _)
      known (s.Letrec functions body) scope locals needs h k c =
          letrec_known functions body scope locals needs k (past c)
          (functions_known functions scope (defined_names functions ++ locals) h.0 k (past c), known body scope (defined_names functions ++ locals) needs h.1 k _)
      known (s.Apply (s.Name f) args) scope locals needs h k c =
          applied_known scope locals needs h.0 f _ h.1 (count_of args k _ (map name locals) ∙ h.2) (all_known args scope locals h.3 k _)
      known (s.Call (s.Atom a) (s.Atom b) args) scope locals needs h k c =
          call_known scope locals needs h.0 a b args (named program m a b (count args)) refl h.1 (λ k c. all_known args scope locals h.2 k c) (λ fine k c. spawned_known args scope locals needs h.0 h.2 fine k c) k c
      known (s.Primop a args) scope locals needs h k c =
          primop_known scope (map name locals) needs a (count args) (all_numbered table m args k (past c)).0 (count_numbered args k (past c)) h.0 (all_known args scope locals h.1 k (past c))
      known (s.Receive clauses timeout body) scope locals needs h k c =
          timeout_is timeout h.1 k _ _ _ (IsKnown arities scope (map name locals) needs)
          (λ t. (clauses_known clauses scope locals 1 needs h.0 k _, known body scope locals needs h.2 k _))
      known _ scope locals needs h k c = absurd h

      all_known : (xs : Syntaxes) (scope : Scope) (locals : List FunName) → AreFine program m scope locals xs → (k : ℕ) (c : Counts)
          → AreKnown arities scope (map name locals) (resolve_all names current (all_numbered table m xs k c).0 (map name locals))
      all_known NoSyntax scope locals h k c = tt
      all_known (MoreSyntax x xs) scope locals h k c = (known x scope locals 1 h.0 k c, all_known xs scope locals h.1 k _)

      spawned_known : (xs : Syntaxes) (scope : Scope) (locals : List FunName) (needs : ℕ) → needs ≡ 1 → AreFine program m scope locals xs → SpawnIsFine program m xs → (k : ℕ) (c : Counts)
          → IsKnown arities scope (map name locals) needs (resolve_spawn names current (spawn_numbered table m xs (all_numbered table m xs) k c).0 (map name locals))
      spawned_known (MoreSyntax (s.Atom a) (MoreSyntax (s.Atom b) (MoreSyntax s.Nil NoSyntax))) scope locals needs one h fine k c =
          spawn_known scope locals needs one (function_called names current (number a) (number b) 0) 0 _ (agree.called a b 0 fine) refl tt
      spawned_known (MoreSyntax (s.Atom a) (MoreSyntax (s.Atom b) (MoreSyntax (s.ListOf _ heads s.Nil) NoSyntax))) scope locals needs one h fine k c =
          let after = past (past (past c)) in
          let xs = (all_numbered table m heads k after).0 in
          let found : Found arities (function_called names current (number a) (number b) (count xs)) (count xs)
          = subst (λ n. Found arities (function_called names current (number a) (number b) n) n) (sym (count_numbered heads k after)) (agree.called a b (count heads) fine) in
          spawn_known scope locals needs one (function_called names current (number a) (number b) (count xs)) (count xs) _ found (count_resolved xs (map name locals)) (all_known heads scope locals h.1.1.0.1 k after)
      spawned_known _ scope locals needs one h fine k c = absurd fine

      -- the guard of a clause
      guard_at : (guard : Syntax) (scope : Scope) (locals : List FunName)
          → GuardIsFine program m scope locals guard ((k : ℕ) (c : Counts) → IsKnown arities scope (map name locals) 1 (resolve names current (numbered table m guard k c).0 (map name locals)))
          → (k : ℕ) (c : Counts) → let x = (numbered table m guard k c).0 in let read = resolve_guard names current x (resolve names current x (map name locals)) (map name locals) in
          HasGuardForms read × IsKnown arities scope (map name locals) 1 read
      guard_at (s.Try value vars (s.Var x) catch_vars (s.Atom a)) scope locals h k c =
          let y = (numbered table m value k (past c)).0 in
          subst (λ b. let read = if b then resolve names current y (map name locals) else r.Refused in HasGuardForms read × IsKnown arities scope (map name locals) 1 read)
          (sym (both_hold _ _ _ h.0.0 h.0.1 (agree.texts a _ _ h.0.2)))
          (guard_known value (map name locals) h.1 k (past c), known value scope locals 1 h.2 k (past c))
      guard_at (s.Int n) scope locals h k c = (tt, h.1 k c)
      guard_at (s.Atom a) scope locals h k c = (tt, h.1 k c)
      guard_at s.Nil scope locals h k c = (tt, h.1 k c)
      guard_at (s.Var x) scope locals h k c = (tt, h.1 k c)
      guard_at (s.Let xs value body) scope locals h k c = (guard_known (s.Let xs value body) (map name locals) h.0 k c, h.1 k c)
      guard_at (s.Call x y args) scope locals h k c = (guard_known (s.Call x y args) (map name locals) h.0 k c, h.1 k c)
      guard_at _ scope locals h k c = absurd h.0

      clauses_known : (cs : s.Clauses) (scope : Scope) (locals : List FunName) (values needs : ℕ) → ClausesAreFine program m scope locals values needs cs → (k : ℕ) (c : Counts)
          → ClausesAreKnown arities scope (map name locals) values needs (resolve_clauses names current (clauses_numbered table m cs k c).0 (map name locals))
      clauses_known s.NoClauses scope locals values needs h k c = tt
      clauses_known (s.MoreClauses ps guard body cs) scope locals values needs h k c =
          let inside = with_patterns scope ps in
          let g = guard_at guard inside locals (guard_map guard inside locals _ _ (λ f k c. known guard inside locals 1 f k c) h.1) k _ in
          let b = known body inside locals needs h.2 k _ in
          let others = clauses_known cs scope locals values needs h.3 k _ in (
            patterns_counted ps ∙ h.0,
            g.0,
            in_patterns scope ps (map name locals) 1 _ g.1,
            in_patterns scope ps (map name locals) needs _ b,
            others,
          )

      functions_known : (fs : s.Definitions) (scope : Scope) (locals : List FunName) → FunctionsAreFine program m scope locals fs → (k : ℕ) (c : Counts)
          → FunctionsAreKnown arities scope (map name locals) (resolve_definitions names current (definitions_numbered table m fs k c).0 (map name locals))
      functions_known s.NoDefinitions scope locals h k c = tt
      functions_known (s.MoreDefinitions f xs body fs) scope locals h k c =
          (h.0, known body (with_variables scope xs) locals 1 h.1 c.local (record c { local = suc c.local }), functions_known fs scope locals h.2 k _)
