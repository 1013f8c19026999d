-- A ParenthesizedExpression is a list of Arguments too.
use Rattle.std.proofs.Common.{ℕ, Bool, List, [], ◌∷◌, refl}
use Rattle.esb_tree.specs.declared.patterns.Bracketed.{Bracketed}
use Rattle.esb_tree.specs.declared.patterns.Element.{Element}
use Rattle.esb_tree.specs.declared.patterns.Elements.{Elements}
use Rattle.esb_tree.specs.declared.patterns.NextElement.{NextElement}
use Rattle.esb_grammar.specs.declared.context.Context.{Context}
use Rattle.esb_grammar.specs.declared.form.Form.TheVariants as f
use Rattle.esb_grammar.specs.Grammar.{IsBracketed, bracketed, AreElements, elements, AreNextElements, no_elements, more_elements, IsElement, hole, spread, binding_element, rest_element}

module _ (text : List ℕ) (c : Context) where
  element_too : {last : Bool} (x : Element) → IsElement text f.Values last c x → IsElement text f.Arguments last c x
  element_too x (hole h) = cc
  element_too x (IsElement.value h good) = IsElement.value refl good
  element_too x (spread h is good) = cc
  element_too x (binding_element h good) = cc
  element_too x (rest_element h is good) = cc

  elements_too : (xs : List NextElement) → AreNextElements text f.Values c xs → AreNextElements text f.Arguments c xs
  elements_too [] h = no_elements
  elements_too (x ∷ xs) (more_elements is good more) = more_elements is (element_too _ good) (elements_too xs more)

  list_too : (x : Elements) → AreElements text f.Values c x → AreElements text f.Arguments c x
  list_too x (elements first rest good more) = elements first rest (element_too first good) (elements_too rest more)

  pub values_arguments : (x : Bracketed) → IsBracketed text f.Values c x → IsBracketed text f.Arguments c x
  values_arguments x (bracketed begin list ending first good last) = bracketed begin list ending first (list_too list good) last
