-- Patterns and innermost bindings: small programs and what they end with.
use Rattle.std.specs.Prelude.{List, [], ◌∷◌, codes, pos}
use Rattle.hy_core.specs.Resolved.{Pattern, AnyTerm, TheInt, TheText, TheTuple, TheList, Alias}
use Rattle.hy_core.specs.SmallPrograms.{atom, int, syntaxes, tuple, f, EndsWith}
use Rattle.hy_core.specs.Syntax as syntax
use Rattle.hy_core.specs.Syntax.{Syntax, patterns_of, NoDefinitions, MoreDefinitions}

abbrev tuple_pattern : List Pattern → Pattern
tuple_pattern ps = TheTuple (patterns_of ps)

-- <{..}> when 'true' -> S
abbrev tuple_clause : List Pattern → Syntax → syntax.Clauses → syntax.Clauses
tuple_clause ps s cs =
    syntax.MoreClauses (patterns_of (tuple_pattern ps ∷ [])) (atom (codes "true")) s cs

-- X = {2, [H|T]}
abbrev named_part : Pattern
named_part =
    let list_pattern = TheList (patterns_of (AnyTerm 5 ∷ [])) (AnyTerm 6) in
    Alias 4 (tuple_pattern (TheInt (pos 2) ∷ list_pattern ∷ []))

-- {1, {2, [3, 4|5]}, "ab"}
abbrev value : Syntax
value =
    let inside = tuple (int 2 ∷ syntax.ListOf 0 (syntaxes (int 3 ∷ int 4 ∷ [])) (int 5) ∷ []) in
    tuple (int 1 ∷ inside ∷ syntax.Str (codes "ab") ∷ [])

-- case {1, {2, [3, 4|5]}, "ab"} of <{A, B, C, D}> -> 'long' <{A, B}> -> 'short'
-- <{A, X = {2, [H|T]}, "a"}> -> 'prefix' <{A, X = {2, [H|T]}, "ab"}> -> {X, H, T} end
abbrev pub matched : Syntax
matched =
    syntax.Case value
    (tuple_clause (AnyTerm 0 ∷ AnyTerm 1 ∷ AnyTerm 2 ∷ AnyTerm 3 ∷ []) (atom (codes "long"))
    (tuple_clause (AnyTerm 0 ∷ AnyTerm 1 ∷ []) (atom (codes "short"))
    (tuple_clause (AnyTerm 0 ∷ named_part ∷ TheText (codes "a") ∷ []) (atom (codes "prefix"))
    (tuple_clause (AnyTerm 0 ∷ named_part ∷ TheText (codes "ab") ∷ [])
    (tuple (syntax.Var 4 ∷ syntax.Var 5 ∷ syntax.Var 6 ∷ []))
    syntax.NoClauses))))

-- a tuple matches with all its parts and a string with all its bytes; an alias names what its
-- pattern matches
abbrev pub PatternsMatch : Type 0
PatternsMatch = EndsWith matched (codes "{{2,[3,4|5]},3,[4|5]}")

-- let <X> = 1 in let <X> = 2 in X
abbrev pub variable_again : Syntax
variable_again = syntax.Let (0 ∷ []) (int 1) (syntax.Let (0 ∷ []) (int 2) (syntax.Var 0))

-- letrec 'f'/1 = fun (Y) -> S in T
abbrev letrec_f : Syntax → Syntax → Syntax
letrec_f s t = syntax.Letrec (MoreDefinitions f (1 ∷ []) s NoDefinitions) t

abbrev apply_f : Syntax → Syntax
apply_f s = syntax.Apply (syntax.Name f) (syntaxes (s ∷ []))

-- letrec 'f'/1 = fun (Y) -> 'outer' in letrec 'f'/1 = fun (Y) -> 'inner' in apply 'f'/1 (0)
abbrev pub function_again : Syntax
function_again = letrec_f (atom (codes "outer")) (letrec_f (atom (codes "inner")) (apply_f (int 0)))

-- let <X> = 1 in letrec 'f'/1 = fun (Y) -> {X, Y} in let <X> = 2 in apply 'f'/1 (X)
abbrev pub bound_around : Syntax
bound_around =
    syntax.Let (0 ∷ []) (int 1)
    (letrec_f (tuple (syntax.Var 0 ∷ syntax.Var 1 ∷ []))
    (syntax.Let (0 ∷ []) (int 2) (apply_f (syntax.Var 0))))

-- a name stands for its innermost binding, around the place where it stands
pub record InnermostBindings : Type 0 where
  pub variable : EndsWith variable_again (codes "2")
  -- before the outer letrec and the module, whose 'f'/1 gives 'module'
  pub function : EndsWith function_again (codes "'inner'")
  pub around : EndsWith bound_around (codes "{1,2}")
