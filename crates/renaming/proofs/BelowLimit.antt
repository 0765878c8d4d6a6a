-- What a program binds is below its limit.
use Rattle.std.proofs.Common.{◌≡◌, ℕ, zero, suc, ◌+◌, ◌<◌, ◌≤◌, List, [], ◌∷◌, ◌++◌, map}
use Rattle.std.proofs.Common.{Bool, true, false, refl, arith, Option, Some, None, leb-true}
use Rattle.std.proofs.Common.{leb-false}
use Rattle.std.specs.Prelude.{nat_le, if◌then◌else◌}
use Rattle.hy_core.specs.Resolved as r
use Rattle.hy_core.specs.Resolved.{Pattern, Patterns, NoPatterns, MorePatterns}
use Rattle.hy_core.specs.Syntax as s
use Rattle.hy_core.specs.Syntax.{Syntax, Syntaxes, NoSyntax, MoreSyntax, count}
use Rattle.hy_core.specs.Syntax.{Clauses, NoClauses, MoreClauses}
use Rattle.hy_core.specs.Syntax.{Definitions, NoDefinitions, MoreDefinitions}
use Rattle.hy_terms.specs.Naming.{text_of}
use Rattle.hy_core.specs.BuiltIn.{Operation, Plain, SetsElement, Sends, Spawns, Displays, RaisesAs}
use Rattle.hy_core.specs.Resolve.{Names, applied_head, call_of, defined_names, erlang_operation}
use Rattle.hy_core.specs.Resolve.{function_called, function_head, is_guard_form, is_match_fail}
use Rattle.hy_core.specs.Resolve.{named_call, received, resolve, resolve_all, resolve_clauses}
use Rattle.hy_core.specs.Resolve.{resolve_definitions, resolve_guard, resolve_spawn, spawn_head}
use Rattle.hy_core.specs.Resolve.{timeout_of}
use Rattle.hy_core.specs.Resolved.{Head, Timeout, Expression, Expressions, NoExpressions}
use Rattle.hy_core.specs.Resolved.{MoreExpressions, FunctionTree}
use Rattle.hy_core.specs.Supplied.{Supply, behind, behind_all, behind_clauses, behind_functions}
use Rattle.hy_core.specs.Supplied.{behind_head, behind_sites, expression_count, supplied}
use Rattle.hy_core.specs.Supplied.{all_supplied, clauses_supplied, functions_supplied}
use Rattle.hy_core.specs.declared.tree.FunName.{FunName}
use Rattle.std.specs.List.{All}
use Rattle.std.proofs.lemmas.List.Elements.{All-nil, All-cons, All-append}
use Rattle.hy_core.specs.NameFaults.{modules_of}
use Rattle.hy_core.specs.ProgramTrees.{function_trees, functions_from, modules_from, resolved}
use Rattle.hy_core.specs.ProgramTrees.{supply_of}
use Rattle.hy_core.specs.Syntax.{definitions_of, syntax_of}
use Rattle.hy_core.specs.declared.tree.Function.{Function}
use Rattle.hy_core.specs.declared.tree.Module.{Module}
use Rattle.hy_core.specs.declared.tree.Program.{Program}
use Rattle.renaming.specs.RenamedSyntax.{function_syntax}
use Rattle.renaming.specs.VariableLimit.{above_module, variable_limit}
use Rattle.lifted_program.specs.Below.{AreBelow, PatternIsBelow, PatternsAreBelow, BindsBelow}
use Rattle.lifted_program.specs.Below.{BindBelow, ClausesBindBelow, FunctionsBindBelow}
use Rattle.lifted_program.specs.Below.{FunctionBindsBelow}
use Rattle.renaming.specs.VariableLimit.{above, above_all, above_each, above_pattern}
use Rattle.renaming.specs.VariableLimit.{above_patterns, above_syntax, above_syntaxes}
use Rattle.renaming.specs.VariableLimit.{above_clauses, above_definitions}

record Above (n x m : ℕ) : Type 0 where
  grows : n ≤ m
  over : x < m

above_is : (n x : ℕ) → Above n x (above n x)
above_is n x = by_case (nat_le n x) refl
  where
    by_case : (b : Bool) → nat_le n x ≡ b → Above n x (if b then x + 1 else n)
    by_case true e = let h = leb-true n x e in record { grows = omega arith; over = omega arith }
    by_case false e = let h = leb-false n x e in record { grows = omega arith; over = omega arith }

all_grow : (n : ℕ) (xs : List ℕ) → n ≤ above_all n xs
all_grow n [] = omega arith
all_grow n (x ∷ xs) =
    let a = (above_is n x).grows in
    let b = all_grow (above n x) xs in
    omega (arith, a, b)

all_below : (limit n : ℕ) (xs : List ℕ) → above_all n xs ≤ limit → AreBelow limit xs
all_below limit n [] h = tt
all_below limit n (x ∷ xs) h =
    let a = (above_is n x).over in
    let b = all_grow (above n x) xs in
    (omega (arith, a, b, h), all_below limit (above n x) xs h)

mutual
  pattern_grows : (n : ℕ) (p : Pattern) → n ≤ above_pattern n p
  pattern_grows n (r.AnyTerm x) = (above_is n x).grows
  pattern_grows n (r.TheTuple ps) = patterns_grow n ps
  pattern_grows n (r.TheList ps p) =
      let a = patterns_grow n ps in
      let b = pattern_grows (above_patterns n ps) p in
      omega (arith, a, b)
  pattern_grows n (r.Alias x p) =
      let a = (above_is n x).grows in
      let b = pattern_grows (above n x) p in
      omega (arith, a, b)
  pattern_grows n _ = omega arith

  patterns_grow : (n : ℕ) (ps : Patterns) → n ≤ above_patterns n ps
  patterns_grow n NoPatterns = omega arith
  patterns_grow n (MorePatterns p ps) =
      let a = pattern_grows n p in
      let b = patterns_grow (above_pattern n p) ps in
      omega (arith, a, b)

mutual
  grows : (n : ℕ) (e : Syntax) → n ≤ above_syntax n e
  grows n (s.Tuple site es) = all_parts_grow n es
  grows n (s.ListOf site es e) =
      let a = all_parts_grow n es in
      let b = grows (above_syntaxes n es) e in
      omega (arith, a, b)
  grows n (s.Values es) = all_parts_grow n es
  grows n (s.Let xs e b) =
      let a = all_grow n xs in
      let c = grows (above_all n xs) e in
      let d = grows (above_syntax (above_all n xs) e) b in
      omega (arith, a, c, d)
  grows n (s.Do e b) =
      let a = grows n e in
      let c = grows (above_syntax n e) b in
      omega (arith, a, c)
  grows n (s.Case e cs) =
      let a = grows n e in
      let b = clauses_grow (above_syntax n e) cs in
      omega (arith, a, b)
  grows n (s.Letrec fs e) =
      let a = definitions_grow n fs in
      let b = grows (above_definitions n fs) e in
      omega (arith, a, b)
  grows n (s.Apply e es) =
      let a = grows n e in
      let b = all_parts_grow (above_syntax n e) es in
      omega (arith, a, b)
  grows n (s.Call m f es) =
      let a = grows n m in
      let b = grows (above_syntax n m) f in
      let c = all_parts_grow (above_syntax (above_syntax n m) f) es in
      omega (arith, a, b, c)
  grows n (s.Primop a es) = all_parts_grow n es
  grows n (s.Receive cs t e) =
      let a = clauses_grow n cs in
      let b = grows (above_clauses n cs) t in
      let c = grows (above_syntax (above_clauses n cs) t) e in
      omega (arith, a, b, c)
  grows n (s.Try e xs b ys c) =
      let n1 = above_syntax n e in
      let n2 = above_all n1 xs in
      let n3 = above_syntax n2 b in
      let n4 = above_all n3 ys in
      let h1 = grows n e in
      let h2 = all_grow n1 xs in
      let h3 = grows n2 b in
      let h4 = all_grow n3 ys in
      let h5 = grows n4 c in
      omega (arith, h1, h2, h3, h4, h5)
  grows n (s.Catch e) = grows n e
  grows n (s.Fun xs e) =
      let a = all_grow n xs in
      let b = grows (above_all n xs) e in
      omega (arith, a, b)
  grows n _ = omega arith

  all_parts_grow : (n : ℕ) (es : Syntaxes) → n ≤ above_syntaxes n es
  all_parts_grow n NoSyntax = omega arith
  all_parts_grow n (MoreSyntax e es) =
      let a = grows n e in
      let b = all_parts_grow (above_syntax n e) es in
      omega (arith, a, b)

  clauses_grow : (n : ℕ) (cs : Clauses) → n ≤ above_clauses n cs
  clauses_grow n NoClauses = omega arith
  clauses_grow n (MoreClauses ps g b cs) =
      let n1 = above_patterns n ps in
      let n2 = above_syntax n1 g in
      let n3 = above_syntax n2 b in
      let h1 = patterns_grow n ps in
      let h2 = grows n1 g in
      let h3 = grows n2 b in
      let h4 = clauses_grow n3 cs in
      omega (arith, h1, h2, h3, h4)

  definitions_grow : (n : ℕ) (fs : Definitions) → n ≤ above_definitions n fs
  definitions_grow n NoDefinitions = omega arith
  definitions_grow n (MoreDefinitions f xs b fs) =
      let n1 = above_all n xs in
      let h1 = all_grow n xs in
      let h2 = grows n1 b in
      let h3 = definitions_grow (above_syntax n1 b) fs in
      omega (arith, h1, h2, h3)

module _ (limit : ℕ) where
  mutual
    pattern_below : (n : ℕ) (p : Pattern) → above_pattern n p ≤ limit → PatternIsBelow limit p
    pattern_below n (r.AnyTerm x) h = let a = (above_is n x).over in omega (arith, a, h)
    pattern_below n (r.TheTuple ps) h = patterns_below n ps h
    pattern_below n (r.TheList ps p) h =
        let a = pattern_grows (above_patterns n ps) p in
        (patterns_below n ps (omega (arith, a, h)), pattern_below (above_patterns n ps) p h)
    pattern_below n (r.Alias x p) h =
        let a = (above_is n x).over in
        let b = pattern_grows (above n x) p in
        (omega (arith, a, b, h), pattern_below (above n x) p h)
    pattern_below n _ h = tt

    patterns_below : (n : ℕ) (ps : Patterns) → above_patterns n ps ≤ limit
        → PatternsAreBelow limit ps
    patterns_below n NoPatterns h = tt
    patterns_below n (MorePatterns p ps) h =
        let a = patterns_grow (above_pattern n p) ps in
        (pattern_below n p (omega (arith, a, h)), patterns_below (above_pattern n p) ps h)

  -- the forms that a call may take
  call_of-below : (o : Option Head) (es : Expressions) → BindBelow limit es
      → BindsBelow limit (call_of o es)
  call_of-below None es h = tt
  call_of-below (Some head) es h = h

  received-below : (cs : r.Clauses) (o : Option Timeout) (e : Expression)
      → ClausesBindBelow limit cs → BindsBelow limit e → BindsBelow limit (received cs o e)
  received-below cs None e h k = tt
  received-below cs (Some t) e h k = (h, k)

  match_fail-below : (b : Bool) (es : Expressions) → BindBelow limit es
      → BindsBelow limit (if b then r.Call r.MatchFail es else r.Refused)
  match_fail-below true es h = h
  match_fail-below false es h = tt

  chosen-below : (b : Bool) (e f : Expression) → BindsBelow limit e → BindsBelow limit f
      → BindsBelow limit (if b then e else f)
  chosen-below true e f h k = h
  chosen-below false e f h k = k

  module _ (names : Names) (current : ℕ) where
    named_call-below : (m f n : ℕ) (o : Option Operation) (es : Expressions) (e : Expression)
        → BindBelow limit es → BindsBelow limit e
        → BindsBelow limit (named_call names current m f n o es e)
    named_call-below m f n None es e h k =
        call_of-below (function_head (function_called names current m f n)) es h
    named_call-below m f n (Some (Plain b)) es e h k = h
    named_call-below m f n (Some SetsElement) es e h k = h
    named_call-below m f n (Some Sends) es e h k = h
    named_call-below m f n (Some Spawns) es e h k = k
    named_call-below m f n (Some Displays) es e h k = h
    named_call-below m f n (Some (RaisesAs class)) es e h k = h

    mutual
      below : (n : ℕ) (e : Syntax) (locals : List FunName) → above_syntax n e ≤ limit
          → BindsBelow limit (resolve names current e locals)
      below n (s.Tuple site es) locals h = all_parts_below n es locals h
      below n (s.ListOf site es e) locals h =
          let a = grows (above_syntaxes n es) e in (
            all_parts_below n es locals (omega (arith, a, h)),
            below (above_syntaxes n es) e locals h,
          )
      below n (s.Values es) locals h = all_parts_below n es locals h
      below n (s.Let xs e b) locals h =
          let n1 = above_all n xs in
          let n2 = above_syntax n1 e in
          let a = grows n1 e in
          let c = grows n2 b in (
            below n1 e locals (omega (arith, c, h)),
            all_below limit n xs (omega (arith, a, c, h)),
            below n2 b locals h,
          )
      below n (s.Do e b) locals h =
          let a = grows (above_syntax n e) b in
          (below n e locals (omega (arith, a, h)), below (above_syntax n e) b locals h)
      below n (s.Case e cs) locals h =
          let a = clauses_grow (above_syntax n e) cs in
          (below n e locals (omega (arith, a, h)), clauses_below (above_syntax n e) cs locals h)
      below n (s.Letrec fs e) locals h =
          let inside = defined_names fs ++ locals in
          let a = grows (above_definitions n fs) e in (
            definitions_below n fs inside (omega (arith, a, h)),
            below (above_definitions n fs) e inside h,
          )
      below n (s.Apply (s.Name f) es) locals h =
          call_of-below (applied_head names current f locals)
          (resolve_all names current es locals) (all_parts_below n es locals h)
      below n (s.Call (s.Atom m) (s.Atom f) es) locals h =
          named_call-below m f (count es) (erlang_operation names current m f (count es))
          (resolve_all names current es locals) (resolve_spawn names current es locals)
          (all_parts_below n es locals h) (spawn_below n es locals h)
      below n (s.Primop a es) locals h =
          match_fail-below (is_match_fail (text_of names.atoms a) (count es))
          (resolve_all names current es locals) (all_parts_below n es locals h)
      below n (s.Receive cs t e) locals h =
          let n1 = above_clauses n cs in
          let n2 = above_syntax n1 t in
          let a = grows n1 t in
          let b = grows n2 e in
          received-below (resolve_clauses names current cs locals) (timeout_of names current t)
          (resolve names current e locals) (clauses_below n cs locals (omega (arith, a, b, h)))
          (below n2 e locals h)
      below n _ locals h = tt

      all_parts_below : (n : ℕ) (es : Syntaxes) (locals : List FunName)
          → above_syntaxes n es ≤ limit → BindBelow limit (resolve_all names current es locals)
      all_parts_below n NoSyntax locals h = tt
      all_parts_below n (MoreSyntax e es) locals h =
          let a = all_parts_grow (above_syntax n e) es in (
            below n e locals (omega (arith, a, h)),
            all_parts_below (above_syntax n e) es locals h,
          )

      spawn_below : (n : ℕ) (es : Syntaxes) (locals : List FunName) → above_syntaxes n es ≤ limit
          → BindsBelow limit (resolve_spawn names current es locals)
      spawn_below n
          (MoreSyntax (s.Atom m) (MoreSyntax (s.Atom f) (MoreSyntax s.Nil NoSyntax))) locals h =
          call_of-below (spawn_head (function_called names current m f 0)) NoExpressions tt
      spawn_below n
          (MoreSyntax (s.Atom m) (MoreSyntax (s.Atom f)
          (MoreSyntax (s.ListOf site es s.Nil) NoSyntax))) locals h =
          call_of-below (spawn_head (function_called names current m f (count es)))
          (resolve_all names current es locals) (all_parts_below n es locals h)
      spawn_below n _ locals h = tt

      guard_below : (n : ℕ) (e : Syntax) (locals : List FunName) → above_syntax n e ≤ limit
          → BindsBelow limit (resolve names current e locals)
          → BindsBelow limit
          (resolve_guard names current e (resolve names current e locals) locals)
      guard_below n (s.Try e xs (s.Var x) ys (s.Atom a)) locals h k =
          let n1 = above_syntax n e in
          let n2 = above_all n1 xs in
          let b = all_grow n1 xs in
          let c = all_grow n2 ys in
          chosen-below (is_guard_form names current xs x ys a) (resolve names current e locals)
          r.Refused (below n e locals (omega (arith, b, c, h))) tt
      guard_below n _ locals h k = k

      clauses_below : (n : ℕ) (cs : Clauses) (locals : List FunName) → above_clauses n cs ≤ limit
          → ClausesBindBelow limit (resolve_clauses names current cs locals)
      clauses_below n NoClauses locals h = tt
      clauses_below n (MoreClauses ps g b cs) locals h =
          let n1 = above_patterns n ps in
          let n2 = above_syntax n1 g in
          let n3 = above_syntax n2 b in
          let h2 = grows n1 g in
          let h3 = grows n2 b in
          let h4 = clauses_grow n3 cs in
          let g_below : n2 ≤ limit = omega (arith, h3, h4, h) in (
            patterns_below n ps (omega (arith, h2, h3, h4, h)),
            guard_below n1 g locals g_below (below n1 g locals g_below),
            below n2 b locals (omega (arith, h4, h)),
            clauses_below n3 cs locals h,
          )

      definitions_below : (n : ℕ) (fs : Definitions) (locals : List FunName)
          → above_definitions n fs ≤ limit
          → FunctionsBindBelow limit (resolve_definitions names current fs locals)
      definitions_below n NoDefinitions locals h = tt
      definitions_below n (MoreDefinitions f xs b fs) locals h =
          let n1 = above_all n xs in
          let n2 = above_syntax n1 b in
          let h2 = grows n1 b in
          let h3 = definitions_grow n2 fs in (
            all_below limit n xs (omega (arith, h2, h3, h)),
            below n1 b locals (omega (arith, h3, h)),
            definitions_below n2 fs locals h,
          )

  -- numbers that are supplied bind nothing
  mutual
    supplied-below : (e : Expression) (n : Supply) → BindsBelow limit e
        → BindsBelow limit (supplied e n)
    supplied-below (r.Tuple site es) n h = all-supplied es (behind_sites 1 n) h
    supplied-below (r.ListOf site es e) n h =
        let inside = behind_sites (expression_count es) n in
        (all-supplied es inside h.0, supplied-below e (behind_all es inside) h.1)
    supplied-below (r.Values es) n h = all-supplied es n h
    supplied-below (r.Let xs e b) n h =
        (supplied-below e n h.0, h.1, supplied-below b (behind e n) h.2)
    supplied-below (r.Do e b) n h = (supplied-below e n h.0, supplied-below b (behind e n) h.1)
    supplied-below (r.Case e cs) n h =
        (supplied-below e n h.0, clauses-supplied cs (behind e n) h.1)
    supplied-below (r.Letrec fs e) n h =
        (functions-supplied fs n h.0, supplied-below e (behind_functions fs n) h.1)
    supplied-below (r.Call head es) n h = all-supplied es (behind_head head n) h
    supplied-below (r.Receive cs t e) n h =
        (clauses-supplied cs n h.0, supplied-below e (behind_clauses cs n) h.1)
    supplied-below _ n h = tt

    all-supplied : (es : Expressions) (n : Supply) → BindBelow limit es
        → BindBelow limit (all_supplied es n)
    all-supplied NoExpressions n h = tt
    all-supplied (MoreExpressions e es) n h =
        (supplied-below e n h.0, all-supplied es (behind e n) h.1)

    clauses-supplied : (cs : r.Clauses) (n : Supply) → ClausesBindBelow limit cs
        → ClausesBindBelow limit (clauses_supplied cs n)
    clauses-supplied r.NoClauses n h = tt
    clauses-supplied (r.MoreClauses ps g b cs) n h =
        let after_guard = behind g n in (
          h.0,
          supplied-below g n h.1,
          supplied-below b after_guard h.2,
          clauses-supplied cs (behind b after_guard) h.3,
        )

    functions-supplied : (fs : r.Functions) (n : Supply) → FunctionsBindBelow limit fs
        → FunctionsBindBelow limit (functions_supplied fs n)
    functions-supplied r.NoFunctions n h = tt
    functions-supplied (r.MoreFunctions f xs b fs) n h =
        (h.0, supplied-below b n h.1, functions-supplied fs (behind b n) h.2)
    -- the functions of a program

-- the functions of a program
abbrev definitions : List Function → Definitions
definitions fs = definitions_of (map function_syntax fs)

module _ (limit : ℕ) (names : Names) where
  functions_below : (current n : ℕ) (sites : List ℕ) (fs : List Function)
      → above_definitions n (definitions fs) ≤ limit
      → All (FunctionBindsBelow limit) (functions_from names current sites fs).0
  functions_below current n sites [] h = All-nil (FunctionBindsBelow limit)
  functions_below current n sites (f ∷ fs) h =
      let n1 = above_all n f.params in
      let n2 = above_syntax n1 (syntax_of f.body) in
      let h2 = grows n1 (syntax_of f.body) in
      let h3 = definitions_grow n2 (definitions fs) in
      let body = resolved names current f in
      let supply = supply_of names.atoms f sites in
      let later = (behind body supply).sites in
      All-cons (FunctionBindsBelow limit) _ _ (
        all_below limit n f.params (omega (arith, h2, h3, h)),
        supplied-below limit body supply
            (below limit names current n1 (syntax_of f.body) [] (omega (arith, h3, h))),
      ) (functions_below current n2 later fs h)

  modules_grow : (n : ℕ) (ms : List Module) → n ≤ above_each above_module n ms
  modules_grow n [] = omega arith
  modules_grow n (m ∷ ms) =
      let a = definitions_grow n (definitions m.functions) in
      let b = modules_grow (above_module n m) ms in
      omega (arith, a, b)

  modules_below : (n : ℕ) (sites : List ℕ) (ms : List Module)
      → above_each above_module n ms ≤ limit
      → All (FunctionBindsBelow limit) (modules_from names sites ms)
  modules_below n sites [] h = All-nil (FunctionBindsBelow limit)
  modules_below n sites (m ∷ ms) h =
      let a = modules_grow (above_module n m) ms in
      let these = functions_from names m.name sites m.functions in
      All-append (FunctionBindsBelow limit) these.0 (modules_from names these.1 ms)
      (functions_below m.name n sites m.functions (omega (arith, a, h)))
      (modules_below (above_module n m) these.1 ms h)

-- a limit that is the program's
pub program_below : (program : Program) (limit : ℕ) → limit ≡ variable_limit program
    → (names : Names) (sites : List ℕ)
    → All (FunctionBindsBelow limit) (function_trees names sites (modules_of program))
program_below program limit is names sites =
    modules_below limit names 0 sites (modules_of program) (omega (arith, is))
