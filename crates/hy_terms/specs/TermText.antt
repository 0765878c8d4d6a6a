-- The printed text of a term: this project's own choice.
use Rattle.std.specs.Prelude.{ℕ, List, ◌++◌, codes}
use Rattle.hy_terms.specs.Term.{Term, Int, Atom, Pid, Nil, Cons, Tuple, Terms, NoTerms, MoreTerms}
use Rattle.hy_terms.specs.Naming.{text_of}
use Rattle.hy_terms.specs.Texts.{int_text, atom_text, pid_text}

module _ (atoms : List (List ℕ)) where
  abbrev mutual
    -- numbers in decimal, atoms in single quotes, `{a,b}`, `[a,b]` and `[a,b|t]`, without spaces
    pub term_text : Term → List ℕ
    term_text (Int n) = int_text n
    term_text (Atom a) = atom_text (text_of atoms a)
    term_text (Pid p) = pid_text p
    term_text Nil = codes "[]"
    term_text (Cons h t) = codes "[" ++ term_text h ++ tail_text t
    term_text (Tuple ts) = codes "{" ++ parts_text ts

    -- what stands behind a head: further heads, or a bar and what is no list
    pub tail_text : Term → List ℕ
    tail_text Nil = codes "]"
    tail_text (Cons h t) = codes "," ++ term_text h ++ tail_text t
    tail_text (Int n) = codes "|" ++ int_text n ++ codes "]"
    tail_text (Atom a) = codes "|" ++ atom_text (text_of atoms a) ++ codes "]"
    tail_text (Pid p) = codes "|" ++ pid_text p ++ codes "]"
    tail_text (Tuple ts) = codes "|{" ++ parts_text ts ++ codes "]"

    pub parts_text : Terms → List ℕ
    parts_text NoTerms = codes "}"
    parts_text (MoreTerms t ts) = term_text t ++ more_parts_text ts

    pub more_parts_text : Terms → List ℕ
    more_parts_text NoTerms = codes "}"
    more_parts_text (MoreTerms t ts) = codes "," ++ term_text t ++ more_parts_text ts
