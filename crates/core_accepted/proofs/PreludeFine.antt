-- The modules of the prelude are fine.
use Rattle.std.proofs.Common.{◌≡◌, codes, ℕ, List, [], ◌∷◌, length, refl, sym, subst, inl, inr}
use Rattle.std.proofs.lemmas.List.Elements.{Contains-append_right}
use Rattle.std.specs.List.{Contains}
use Rattle.hy_core.specs.NameFaults.{IsExported, modules_of}
use Rattle.hy_core.specs.Nodes.{names_of}
use Rattle.hy_core.specs.PreludeModules.{prelude_modules, the_module_erlang, the_module_lists, with_prelude, named_with, the_h, the_t, the_x, the_y, the_z}
use Rattle.hy_core.specs.Resolved.{MorePatterns, NoPatterns, AnyTerm, TheList, TheNil}
use Rattle.hy_core.specs.Scopes.{Scope, with_variables}
use Rattle.hy_core.specs.Syntax as s
use Rattle.hy_core.specs.Syntax.{Syntax, MoreSyntax, NoSyntax, syntax_of, tree}
use Rattle.hy_core.specs.declared.tree.FunName.{FunName}
use Rattle.hy_core.specs.declared.tree.Function.{Function}
use Rattle.hy_core.specs.declared.tree.Module.{Module}
use Rattle.hy_core.specs.declared.tree.Program.{Program}
use Rattle.hy_core.proofs.SyntaxLemmas.{syntax_back}
use Rattle.core_accepted.proofs.FineTrees.{IsFine}
use Rattle.core_accepted.proofs.Membership.{InAny, any_contained, in_any}
use Rattle.core_accepted.proofs.ProgramKnown.{AreFineFunctions, IsFineModule}

-- the bodies as syntax

abbrev over_list : (true erlang error badarg : ℕ) → Syntax → Syntax
over_list true erlang error badarg step =
    s.Case (s.Var the_x)
    (s.MoreClauses (MorePatterns TheNil NoPatterns) (s.Atom true) (s.Var the_y)
    (s.MoreClauses (MorePatterns (TheList (MorePatterns (AnyTerm the_h) NoPatterns) (AnyTerm the_t)) NoPatterns) (s.Atom true) step
    (s.MoreClauses (MorePatterns (AnyTerm the_z) NoPatterns) (s.Atom true) (s.Call (s.Atom erlang) (s.Atom error) (MoreSyntax (s.Atom badarg) NoSyntax)) s.NoClauses)))

abbrev two : Syntax → Syntax → s.Syntaxes
two x y = MoreSyntax x (MoreSyntax y NoSyntax)

abbrev head_before : Syntax → Syntax
head_before tail = s.ListOf 0 (MoreSyntax (s.Var the_h) NoSyntax) tail

abbrev pub erlang_append : Syntax
erlang_append = over_list 2 0 3 4 (head_before (s.Apply (s.Name (named_with 1 2)) (two (s.Var the_t) (s.Var the_y))))

abbrev pub lists_reverse_one : Syntax
lists_reverse_one = s.Apply (s.Name (named_with 1 2)) (two (s.Var the_x) s.Nil)

abbrev pub lists_reverse_two : Syntax
lists_reverse_two = over_list 3 4 5 6 (s.Apply (s.Name (named_with 1 2)) (two (s.Var the_t) (head_before (s.Var the_y))))

abbrev pub lists_append : Syntax
lists_append = s.Call (s.Atom 4) (s.Atom 7) (two (s.Var the_x) (s.Var the_y))

module _ (given : List Module) where
  abbrev program : Program
  program = with_prelude given

  abbrev Fine : Module → Scope → Syntax → Type 0
  Fine m scope t = IsFine program m scope [] 1 t

  stands : (m : Module) → InAny m prelude_modules → Contains (modules_of program) m
  stands m h = Contains-append_right given prelude_modules m (any_contained prelude_modules m h)

  -- the module defines the function
  defines : (m : Module) (f : FunName) → InAny f (names_of m.functions) → (Contains (names_of m.functions) f → ⊥) → ⊥
  defines m f h p = p (any_contained (names_of m.functions) f h)

  as_tree : (m : Module) (params : List ℕ) (t : Syntax) → Fine m (with_variables [] params) t → Fine m (with_variables [] params) (syntax_of (tree t))
  as_tree m params t h = subst (Fine m (with_variables [] params)) (sym (syntax_back t)) h

  append_fine : Fine the_module_erlang (with_variables [] (the_x ∷ the_y ∷ [])) erlang_append
  append_fine = (
    (refl, refl),
    (
      refl,
      (tt, refl),
      (refl, refl),
      (
        refl,
        (tt, refl),
        (refl, ((refl, refl), tt), (refl, (λ p q. defines the_module_erlang (named_with 1 2) (inl refl) q), refl, ((refl, refl), ((refl, refl), tt)))),
        (refl, (tt, refl), (refl, tt, (refl, tt)), tt),
      ),
    ),
  )

  reverse_one_fine : Fine the_module_lists (with_variables [] (the_x ∷ [])) lists_reverse_one
  reverse_one_fine = (refl, (λ p q. defines the_module_lists (named_with 1 2) (inr (inl refl)) q), refl, ((refl, refl), (refl, tt)))

  reverse_two_fine : Fine the_module_lists (with_variables [] (the_x ∷ the_y ∷ [])) lists_reverse_two
  reverse_two_fine = (
    (refl, refl),
    (
      refl,
      (tt, refl),
      (refl, refl),
      (
        refl,
        (tt, refl),
        (refl, (λ p q. defines the_module_lists (named_with 1 2) (inr (inl refl)) q), refl, ((refl, refl), ((refl, ((refl, refl), tt), (refl, refl)), tt))),
        (refl, (tt, refl), (refl, tt, (refl, tt)), tt),
      ),
    ),
  )

  lists_append_fine : Fine the_module_lists (with_variables [] (the_x ∷ the_y ∷ [])) lists_append
  lists_append_fine = (refl, (λ p. p exported), ((refl, refl), ((refl, refl), tt)))
    where
      exported : IsExported program (codes "erlang") (codes "++") 2
      exported = record {
        m = the_module_erlang;
        f = named_with 1 2;
        stands = stands the_module_erlang (inl refl);
        exports = any_contained the_module_erlang.exports (named_with 1 2) (inl refl);
        same_module = refl;
        same_name = refl;
        same_arity = refl;
      }

  erlang_fine : IsFineModule program the_module_erlang
  erlang_fine = record {
    sound = record { exports = λ f here. exports f (in_any the_module_erlang.exports f here); fit = fit };
    functions = functions;
  }
    where
      exports : (f : FunName) → InAny f the_module_erlang.exports → (Contains (names_of the_module_erlang.functions) f → ⊥) → ⊥
      exports f (inl is) = defines the_module_erlang f (inl is)
      exports f (inr h) = absurd h

      fit : (f : Function) → InAny f the_module_erlang.functions → length f.params ≡ f.name.arity
      fit f (inl is) = subst (λ g. length g.params ≡ g.name.arity) is refl
      fit f (inr h) = absurd h

      functions : AreFineFunctions program the_module_erlang the_module_erlang.functions
      functions f (inl is) = subst (λ (g : Function). Fine the_module_erlang (with_variables [] g.params) (syntax_of g.body)) is (as_tree the_module_erlang (the_x ∷ the_y ∷ []) erlang_append append_fine)
      functions f (inr h) = absurd h

  lists_fine : IsFineModule program the_module_lists
  lists_fine = record {
    sound = record { exports = λ f here. exports f (in_any the_module_lists.exports f here); fit = fit };
    functions = functions;
  }
    where
      exports : (f : FunName) → InAny f the_module_lists.exports → (Contains (names_of the_module_lists.functions) f → ⊥) → ⊥
      exports f (inl is) = defines the_module_lists f (inl is)
      exports f (inr (inl is)) = defines the_module_lists f (inr (inl is))
      exports f (inr (inr (inl is))) = defines the_module_lists f (inr (inr (inl is)))
      exports f (inr (inr (inr h))) = absurd h

      fit : (f : Function) → InAny f the_module_lists.functions → length f.params ≡ f.name.arity
      fit f (inl is) = subst (λ g. length g.params ≡ g.name.arity) is refl
      fit f (inr (inl is)) = subst (λ g. length g.params ≡ g.name.arity) is refl
      fit f (inr (inr (inl is))) = subst (λ g. length g.params ≡ g.name.arity) is refl
      fit f (inr (inr (inr h))) = absurd h

      functions : AreFineFunctions program the_module_lists the_module_lists.functions
      functions f (inl is) = subst (λ (g : Function). Fine the_module_lists (with_variables [] g.params) (syntax_of g.body)) is (as_tree the_module_lists (the_x ∷ []) lists_reverse_one reverse_one_fine)
      functions f (inr (inl is)) = subst (λ (g : Function). Fine the_module_lists (with_variables [] g.params) (syntax_of g.body)) is (as_tree the_module_lists (the_x ∷ the_y ∷ []) lists_reverse_two reverse_two_fine)
      functions f (inr (inr (inl is))) = subst (λ (g : Function). Fine the_module_lists (with_variables [] g.params) (syntax_of g.body)) is (as_tree the_module_lists (the_x ∷ the_y ∷ []) lists_append lists_append_fine)
      functions f (inr (inr (inr h))) = absurd h

  pub prelude_fine : (m : Module) → InAny m prelude_modules → IsFineModule program m
  prelude_fine m (inl is) = subst (IsFineModule program) is erlang_fine
  prelude_fine m (inr (inl is)) = subst (IsFineModule program) is lists_fine
  prelude_fine m (inr (inr h)) = absurd h
