-- Lists of the elements that were read.
use Rattle.std.proofs.Common.{◌≡◌, ℕ, ◌+◌, max, Bool, true, false, if◌then◌else◌, List, Option, Some, None, Result, Ok, refl, sym, ap, subst, ◌∙◌, arith}
use Rattle.esb_tree.specs.declared.patterns.Element.{Element}
use Rattle.esb_tree.specs.declared.patterns.Elements.{Elements}
use Rattle.esb_tree.specs.declared.patterns.NextElement.{NextElement}
use Rattle.esb_reader.specs.declared.fault.Fault.{Fault}
use Rattle.esb_reader.specs.declared.node.Node.{Node}
use Rattle.esb_reader.specs.Reader.{Found, Reader, and_then, choose, pure, fail, node, Gives}
use Rattle.esb_reader.specs.Parts.{both, such, made}
use Rattle.esb_expression_laws.specs.Lists.{make_list}

-- what was made, with the place behind it
abbrev pub placed : Option (Node Elements) → ℕ → Found (Node Elements)
placed None j = None
placed (Some x) j = Some (x, j)

-- a list of its elements where a test holds
abbrev pub list_where : Bool → Node Element → Node (List NextElement) → Option (Node Elements)
list_where test x os = if test then Some (node (make_list (x.tree, os.tree)) (max x.levels os.levels)) else None

none_more : (n : ℕ) → n + 0 ≡ n
none_more n = omega arith

by_test : (test : Bool) (x : Node Element) (os : Node (List NextElement)) (j : ℕ)
    → and_then (choose test (pure (node (x.tree, os.tree) (max x.levels os.levels))) fail j) (λ a k. Some (node (make_list a.tree) (a.levels + 0), k)) ≡ placed (list_where test x os) j
by_test true x os j = ap (λ (n : ℕ). placed (Some (node (make_list (x.tree, os.tree)) n)) j) (none_more (max x.levels os.levels))
by_test false x os j = refl

given : (r : Result (Node (List NextElement) × ℕ) Fault) (found : Found (Node (List NextElement))) (p : Node (List NextElement) × ℕ) → r ≡ Ok p → Gives r found → found ≡ Some p
given r found p e h = subst (λ (s : Result (Node (List NextElement) × ℕ) Fault). Gives s found) e h

module _ (element : Reader (Node Element)) (nexts : Reader (Node (List NextElement))) (fits : Element × List NextElement → Bool) where
  read_list : (i m j : ℕ) (x : Node Element) (os : Node (List NextElement)) → element i ≡ Some (x, m) → nexts m ≡ Some (os, j) → made make_list 0 (such (both element nexts) fits) i ≡ placed (list_where (fits (x.tree, os.tree)) x os) j
  read_list i m j x os first rest = rw first (rw rest (by_test (fits (x.tree, os.tree)) x os j))

  -- the first element, those behind it, and the list of both
  pub list_read : (i m j : ℕ) (x first : Node Element) (os : Node (List NextElement)) (r : Result (Node (List NextElement) × ℕ) Fault) (list : Option (Node Elements))
      → element i ≡ Some (first, m) → x ≡ first → r ≡ Ok (os, j) → Gives r (nexts m) → list ≡ list_where (fits (x.tree, os.tree)) x os → made make_list 0 (such (both element nexts) fits) i ≡ placed list j
  list_read i m j x first os r list e same ok h made_of =
      let begun : element i ≡ Some (x, m) = e ∙ ap (λ (y : Node Element). Some (y, m)) (sym same) in
      read_list i m j x os begun (given r (nexts m) (os, j) ok h) ∙ ap (λ (l : Option (Node Elements)). placed l j) (sym made_of)
