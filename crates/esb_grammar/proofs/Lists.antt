-- The parts of a list that fits its form.
use Rattle.std.proofs.Common.{ℕ, List, sym, subst}
use Rattle.esb_token.specs.declared.token.Token.{Token}
use Rattle.esb_tree.specs.declared.patterns.Bracketed.{Bracketed, roll-Bracketed, out-Bracketed}
use Rattle.esb_tree.specs.declared.patterns.Element.{Element}
use Rattle.esb_tree.specs.declared.patterns.Elements.{Elements, roll-Elements, out-Elements, out-roll-Elements}
use Rattle.esb_tree.specs.declared.patterns.NextElement.{NextElement}
use Rattle.esb_grammar.specs.declared.context.Context.{Context}
use Rattle.esb_grammar.specs.declared.form.Form.{Form}
use Rattle.esb_grammar.specs.Forms.{is_empty}
use Rattle.esb_grammar.specs.Grammar.{IsBracketed, bracketed, AreElements, elements, IsElement, AreNextElements}

pub list_of : {text : List ℕ} {form : Form} {c : Context} (x : Bracketed) → IsBracketed text form c x → AreElements text form c (out-Bracketed x).list
unfolding out-Bracketed denote.Hole.Carrier.out roll-Bracketed denote.Hole.Carrier.roll
list_of x (bracketed begin list ending h1 h2 h3) = h2

pub first_of : (text : List ℕ) (form : Form) (c : Context) (x : Elements) → AreElements text form c x → IsElement text form (is_empty (out-Elements x).rest) c (out-Elements x).first
first_of text form c x (elements first rest h1 h2) = subst (λ o. IsElement text form (is_empty o.rest) c o.first) (sym (out-roll-Elements (record { first = first; rest = rest }))) h1

pub rest_of : (text : List ℕ) (form : Form) (c : Context) (x : Elements) → AreElements text form c x → AreNextElements text form c (out-Elements x).rest
rest_of text form c x (elements first rest h1 h2) = subst (λ o. AreNextElements text form c o.rest) (sym (out-roll-Elements (record { first = first; rest = rest }))) h2

-- the same of lists that are written out

list_at : (text : List ℕ) (form : Form) (c : Context) (begin ending : Token) (list : Elements) → IsBracketed text form c (roll-Bracketed (record { begin = begin; list = list; ending = ending })) → AreElements text form c list
unfolding out-Bracketed denote.Hole.Carrier.out roll-Bracketed denote.Hole.Carrier.roll
list_at text form c begin ending list h = list_of (roll-Bracketed (record { begin = begin; list = list; ending = ending })) h

pub first_at : (text : List ℕ) (form : Form) (c : Context) (begin ending : Token) (first : Element) (rest : List NextElement) → IsBracketed text form c (roll-Bracketed (record { begin = begin; list = roll-Elements (record { first = first; rest = rest }); ending = ending })) → IsElement text form (is_empty rest) c first
first_at text form c begin ending first rest h =
    let list = roll-Elements (record { first = first; rest = rest }) in
    subst (λ o. IsElement text form (is_empty o.rest) c o.first) (out-roll-Elements (record { first = first; rest = rest })) (first_of text form c list (list_at text form c begin ending list h))

pub rest_at : (text : List ℕ) (form : Form) (c : Context) (begin ending : Token) (first : Element) (rest : List NextElement) → IsBracketed text form c (roll-Bracketed (record { begin = begin; list = roll-Elements (record { first = first; rest = rest }); ending = ending })) → AreNextElements text form c rest
rest_at text form c begin ending first rest h =
    let list = roll-Elements (record { first = first; rest = rest }) in
    subst (λ o. AreNextElements text form c o.rest) (out-roll-Elements (record { first = first; rest = rest })) (rest_of text form c list (list_at text form c begin ending list h))
