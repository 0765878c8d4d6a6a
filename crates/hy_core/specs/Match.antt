-- Variables with their terms, and when a pattern matches a term, by the Core Erlang 1.0.3 report.
use Rattle.std.specs.Prelude.{ℕ, ◌==◌, List, [], ◌∷◌, pos, Option, Some, None, Bool, true, false, if◌then◌else◌}
use Rattle.std.specs.Ordering.{int_eq}
use Rattle.hy_terms.specs.Term.{Term, Int, Atom, Pid, Nil, Cons, Tuple, Terms, NoTerms, MoreTerms}
use Rattle.hy_core.specs.Resolved.{Pattern, AnyTerm, TheInt, TheAtom, TheNil, TheText, TheTuple, TheList, Alias, Patterns, NoPatterns, MorePatterns, Functions}

-- what is bound: variables to terms, the last binding first, and names to the functions of the
-- letrecs around
pub data Env : Type 0 where
  Empty : Env
  Bound : (variable : ℕ) → Term → Env → Env
  Locals : Functions → Env → Env

-- what a variable is bound to, by its innermost binding
abbrev pub lookup : ℕ → Env → Option Term
lookup x Empty = None
lookup x (Bound y t env) = if x == y then Some t else lookup x env
lookup x (Locals fs env) = lookup x env

-- one term for each variable
abbrev pub bind_variables : List ℕ → List Term → Env → Option Env
bind_variables [] [] env = Some env
bind_variables [] (t ∷ ts) env = None
bind_variables (x ∷ xs) [] env = None
bind_variables (x ∷ xs) (t ∷ ts) env = bind_variables xs ts (Bound x t env)

abbrev pub and_then : Option Env → (Env → Option Env) → Option Env
and_then None k = None
and_then (Some env) k = k env

abbrev pub on_true : Bool → Env → Option Env
on_true true env = Some env
on_true false env = None

-- the term is the list of these bytes
abbrev pub is_text : List ℕ → Term → Bool
is_text [] Nil = true
is_text [] (Int n) = false
is_text [] (Atom a) = false
is_text [] (Pid p) = false
is_text [] (Cons h t) = false
is_text [] (Tuple ts) = false
is_text (c ∷ cs) (Cons (Int n) t) = if int_eq n (pos c) then is_text cs t else false
is_text (c ∷ cs) _ = false

-- the environment with the bindings of the pattern, or none where it does not match
abbrev mutual
  pub match : Pattern → Term → Env → Option Env
  match (AnyTerm x) t env = Some (Bound x t env)
  match (TheInt n) (Int m) env = on_true (int_eq n m) env
  match (TheInt n) _ env = None
  match (TheAtom a) (Atom b) env = on_true (a == b) env
  match (TheAtom a) _ env = None
  match TheNil Nil env = Some env
  match TheNil _ env = None
  match (TheText s) t env = on_true (is_text s t) env
  match (TheTuple ps) (Tuple ts) env = match_parts ps ts env
  match (TheTuple ps) _ env = None
  match (TheList ps p) t env = match_heads ps (λ rest env'. match p rest env') t env
  match (Alias x p) t env = match p t (Bound x t env)

  pub match_parts : Patterns → Terms → Env → Option Env
  match_parts NoPatterns NoTerms env = Some env
  match_parts NoPatterns (MoreTerms t ts) env = None
  match_parts (MorePatterns p ps) NoTerms env = None
  match_parts (MorePatterns p ps) (MoreTerms t ts) env =
      and_then (match p t env) (λ env'. match_parts ps ts env')

  -- the heads match those of the term, and the rest goes on with the rest
  pub match_heads : Patterns → (Term → Env → Option Env) → Term → Env → Option Env
  match_heads NoPatterns rest t env = rest t env
  match_heads (MorePatterns p ps) rest (Cons h t) env =
      and_then (match p h env) (λ env'. match_heads ps rest t env')
  match_heads (MorePatterns p ps) rest _ env = None

-- one pattern for each value
abbrev pub match_all : Patterns → List Term → Env → Option Env
match_all NoPatterns [] env = Some env
match_all NoPatterns (t ∷ ts) env = None
match_all (MorePatterns p ps) [] env = None
match_all (MorePatterns p ps) (t ∷ ts) env = and_then (match p t env) (λ env'. match_all ps ts env')
