-- What the forms of a source mean, from what their parts mean.
use Rattle.std.proofs.Common.{◌≡◌, ℕ, ℤ, List, [], ◌∷◌, map, Option, None, true, if◌then◌else◌, codes, refl, ap, ◌∙◌}
use Rattle.std.specs.Str.{bytes_eq}
use Rattle.hy_terms.specs.Term as term
use Rattle.hy_terms.specs.Term.{Term}
use Rattle.hy_terms.specs.Naming.{text_of}
use Rattle.hy_core.specs.declared.bif.Bif.TheVariants.{Add}
use Rattle.hy_core.specs.declared.tree.Expr.{Expr}
use Rattle.hy_core.specs.declared.tree.Expr.TheVariants as e
use Rattle.hy_core.specs.declared.tree.FunName.{FunName}
use Rattle.hy_core.specs.BuiltIn.{Operation, answer, truth, operation_of}
use Rattle.hy_core.specs.Computation.{Input, Values, then_run, with_one, ended}
use Rattle.hy_core.specs.Evaluation.{Doing, Evaluated, eval, evaluated, denote, answer_end, value_end, in_env, act_on}
use Rattle.hy_core.specs.Event.{Printed}
use Rattle.hy_core.specs.Match.{Env, Bound, lookup, bind_variables}
use Rattle.hybrid_run.specs.Meaning.{meaning, supply_after}
use Rattle.hy_core.specs.Resolve.{Names, resolve, resolve_all, resolve_spawn, erlang_operation, named_call}
use Rattle.hy_core.specs.Resolved as r
use Rattle.hy_core.specs.Resolved.{FunctionTree, Expression}
use Rattle.hy_core.specs.Supplied.{Supply, behind_event, supplied}
use Rattle.hy_core.specs.Syntax as s
use Rattle.hy_core.specs.Syntax.{Syntax, Syntaxes, NoSyntax, MoreSyntax, syntaxes_of, syntax_of}
use Rattle.hy_core.proofs.Forms.{value_ended, answer_ended}
use Rattle.hy_core.proofs.SyntaxLemmas.{syntax_of-Int, syntax_of-Atom, syntax_of-Var, syntax_of-Let, syntax_of-Do, syntax_of-Call}
use Rattle.hy_core.proofs.Rules.{evaluated_bind, evaluated_single, evaluated_one_argument, evaluated_two_arguments, then_same, then_same_one}

module _ (program : List FunctionTree) (atoms : List (List ℕ)) (names : Names) (current pid : ℕ) where
  abbrev ran : ℕ → Doing → List (Input Term) → Evaluated
  ran = evaluated program atoms pid

  abbrev means : List FunName → Supply → ℕ → Env → Expr → List (Input Term) → Evaluated
  means = meaning program atoms names current pid

  abbrev behind_part : List FunName → Supply → Expr → Supply
  behind_part = supply_after names current

  -- a syntax, resolved
  abbrev whole : List FunName → Supply → Syntax → Expression
  whole locals supply t = supplied (resolve names current t locals) supply

  -- what a syntax means
  abbrev syntax_means : List FunName → Supply → ℕ → Env → List (Input Term) → Syntax → Evaluated
  syntax_means locals supply n env ins t = eval program atoms pid n env (whole locals supply t) ins

  pub meaning-Int : (locals : List FunName) (supply : Supply) (n : ℕ) (env : Env) (v : ℤ) (ins : List (Input Term)) → means locals supply n env (e.Int v) ins ≡ ended n ins (Values (term.Int v ∷ []))
  meaning-Int locals supply n env v ins = ap (syntax_means locals supply n env ins) (syntax_of-Int v)

  pub meaning-Var : (locals : List FunName) (supply : Supply) (n : ℕ) (env : Env) (x : ℕ) (ins : List (Input Term)) → means locals supply n env (e.Var x) ins ≡ ended n ins (value_end (lookup x env))
  meaning-Var locals supply n env x ins =
      ap (syntax_means locals supply n env ins) (syntax_of-Var x) ∙ value_ended program atoms pid n ins (lookup x env)

  one_bound : (k : Env → Doing) (x : ℕ) (env : Env) (ts : List Term) (m : ℕ) (jns : List (Input Term)) → ran m (in_env k (bind_variables (x ∷ []) ts env)) jns ≡ with_one (λ t m jns. ran m (k (Bound x t env)) jns) ts m jns
  one_bound k x env [] m jns = refl
  one_bound k x env (t ∷ []) m jns = refl
  one_bound k x env (t ∷ u ∷ ts) m jns = refl

  -- a let of one variable: the value, and then the body where the variable is bound to it
  pub meaning-Let : (locals : List FunName) (supply : Supply) (n : ℕ) (env : Env) (x : ℕ) (value body : Expr) (ins : List (Input Term)) → means locals supply n env (e.Let (x ∷ []) value body) ins
      ≡ then_run (means locals supply n env value ins) (with_one (λ t m jns. means locals (behind_part locals supply value) m (Bound x t env) body jns))
  meaning-Let locals supply n env x value body ins =
      let v = whole locals supply (syntax_of value) in
      let b = whole locals (behind_part locals supply value) (syntax_of body) in
      ap (syntax_means locals supply n env ins) (syntax_of-Let (x ∷ []) value body)
      ∙ evaluated_bind program atoms pid n (denote atoms pid v env) (λ ts. in_env (denote atoms pid b) (bind_variables (x ∷ []) ts env)) ins
      ∙ then_same program atoms pid n (denote atoms pid v env) ins _ _ (one_bound (denote atoms pid b) x env)

  pub meaning-Do : (locals : List FunName) (supply : Supply) (n : ℕ) (env : Env) (first second : Expr) (ins : List (Input Term)) → means locals supply n env (e.Do first second) ins
      ≡ then_run (means locals supply n env first ins) (with_one (λ t m jns. means locals (behind_part locals supply first) m env second jns))
  meaning-Do locals supply n env first second ins =
      let a = whole locals supply (syntax_of first) in
      let b = whole locals (behind_part locals supply first) (syntax_of second) in
      ap (syntax_means locals supply n env ins) (syntax_of-Do first second)
      ∙ evaluated_single program atoms pid n (denote atoms pid a env) (λ t. denote atoms pid b env) ins

  -- a call whose module and name are atoms
  called : (m f : ℕ) (args : List Expr) → syntax_of (e.Call (e.Atom m) (e.Atom f) args) ≡ s.Call (s.Atom m) (s.Atom f) (syntaxes_of (map syntax_of args))
  called m f args =
      syntax_of-Call (e.Atom m) (e.Atom f) args
      ∙ (λ i. s.Call (syntax_of-Atom m i) (syntax_of-Atom f i) (syntaxes_of (map syntax_of args)))

  -- the texts of the module and of the name say which built-in it is
  erlang_operation_named : (m f arity : ℕ) (text : List ℕ) → text_of names.atoms m ≡ codes "erlang" → text_of names.atoms f ≡ text → erlang_operation names current m f arity ≡ operation_of text arity
  erlang_operation_named m f arity text p q =
      ap (λ name. if bytes_eq name (codes "erlang") then operation_of (text_of names.atoms f) arity else None) p
      ∙ ap (λ name. operation_of name arity) q

  abbrev call_means : List FunName → Supply → ℕ → Env → List (Input Term) → (m f arity : ℕ) → Syntaxes → Option Operation → Evaluated
  call_means locals supply n env ins m f arity ts o =
      eval program atoms pid n env (supplied (named_call names current m f arity o (resolve_all names current ts locals) (resolve_spawn names current ts locals)) supply) ins

  -- a call of `+`: both arguments from left to right, and then the answer
  pub meaning-plus : (locals : List FunName) (supply : Supply) (n : ℕ) (env : Env) (m f : ℕ) (a b : Expr) (ins : List (Input Term)) → text_of names.atoms m ≡ codes "erlang" → text_of names.atoms f ≡ codes "+"
      → means locals supply n env (e.Call (e.Atom m) (e.Atom f) (a ∷ b ∷ [])) ins
      ≡ then_run (means locals supply n env a ins) (with_one (λ t m jns. then_run (means locals (behind_part locals supply a) m env b jns) (with_one (λ u l kns. ended l kns (answer_end (answer atoms pid Add (t ∷ u ∷ [])))))))
  meaning-plus locals supply n env m f a b ins p q =
      let ts = MoreSyntax (syntax_of a) (MoreSyntax (syntax_of b) NoSyntax) in
      let first = whole locals supply (syntax_of a) in
      let second = whole locals (behind_part locals supply a) (syntax_of b) in
      ap (syntax_means locals supply n env ins) (called m f (a ∷ b ∷ []))
      ∙ ap (call_means locals supply n env ins m f 2 ts) (erlang_operation_named m f 2 (codes "+") p q)
      ∙ evaluated_two_arguments program atoms pid n first second env (act_on atoms pid (r.BuiltIn Add) env) ins
      ∙ then_same_one program atoms pid n (denote atoms pid first env) ins _ _ (λ t l jns.
      then_same_one program atoms pid l (denote atoms pid second env) jns _ _ (λ u k kns. answer_ended program atoms pid k kns (answer atoms pid Add (t ∷ u ∷ []))))

  -- a call of `display`: the argument, and then the event, whose value is 'true'
  pub meaning-display : (locals : List FunName) (supply : Supply) (n : ℕ) (env : Env) (m f : ℕ) (a : Expr) (ins : List (Input Term)) → text_of names.atoms m ≡ codes "erlang" → text_of names.atoms f ≡ codes "display"
      → means locals supply n env (e.Call (e.Atom m) (e.Atom f) (a ∷ [])) ins
      ≡ then_run (means locals (behind_event supply) n env a ins) (with_one (λ t l jns. record { events = Printed t ∷ []; calls = l; inputs = jns; end = Values (truth true ∷ []) }))
  meaning-display locals supply n env m f a ins p q =
      let ts = MoreSyntax (syntax_of a) NoSyntax in
      let first = whole locals (behind_event supply) (syntax_of a) in
      ap (syntax_means locals supply n env ins) (called m f (a ∷ []))
      ∙ ap (call_means locals supply n env ins m f 1 ts) (erlang_operation_named m f 1 (codes "display") p q)
      ∙ evaluated_one_argument program atoms pid n first env (act_on atoms pid (r.Display 0) env) ins
