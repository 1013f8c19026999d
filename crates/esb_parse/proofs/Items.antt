-- What is handed in for items, and what is read of a text.
use Rattle.std.proofs.Common.{◌≡◌, ℕ, false, Result, Ok, Err, ap, ◌∙◌}
use Rattle.esb_tree.specs.declared.modules.Tree.{Tree}
use Rattle.esb_grammar.specs.declared.context.Context.{Context}
use Rattle.esb_grammar.specs.Contexts.{of_module}
use Rattle.esb_reader.specs.declared.fault.Fault.{Fault}
use Rattle.esb_reader.specs.declared.fault.Fault.TheVariants as fault
use Rattle.esb_reader.specs.Places.{Text}
use Rattle.esb_literal_laws.specs.Classes.{class}
use Rattle.esb_literal_laws.specs.Functions.{function}
use Rattle.esb_literals.specs.Handed.{values}
use Rattle.esb_functions.specs.Bodies.{bodies}
use Rattle.esb_functions.specs.Heads.{heads}
use Rattle.esb_statement_laws.specs.Within.{handed}
use Rattle.esb_module_items.specs.Parts.{GivesTree}
use Rattle.esb_module_laws.specs.Module.{module_tree}
use Rattle.esb_parse_laws.specs.Readers.{value_below, parts, nameless}
use Rattle.esb_parse_laws.proofs.Trees.{trees_rule}
use Rattle.esb_parse_laws.proofs.Turns.{parts_rule}
use Rattle.esb_parse.specs.Knot.{expression, left, items}
use Rattle.esb_parse.specs.Trees.{most_levels, Parses}
use Rattle.esb_parse.proofs.Whole.{function_same, class_same}

module _ (text : Text) (n : ℕ) where
  pub value_is : (d : Context) → d ≡ of_module → (handed text (parts text) n).expression false d ≡ value_below text of_module n
  value_is d e = ap (λ (x : Context). (handed text (parts text) n).expression false x) e ∙ (parts_rule text n).value_is of_module

  pub function_is : function text (values expression text) (bodies items text) false n ≡ (nameless text n).function
  function_is = function_same text of_module n false

  pub class_is : (d : Context) → d ≡ of_module → class text (values expression text) (heads left text) (bodies items text) false d n ≡ (nameless text n).class
  class_is d e = ap (λ (x : Context). class text (values expression text) (heads left text) (bodies items text) false x n) e ∙ class_same text of_module n false

-- what is read of a text within so many levels is its tree, if it has one
pub parses : (text : Text) (r : Result Tree Fault) → GivesTree r (module_tree text (parts text) (nameless text) most_levels) → Parses text r
parses text (Ok tree) h = ((trees_rule text most_levels).exact tree).0 h
parses text (Err (fault.NoTree at)) h = λ tree parsed. (trees_rule text most_levels).none.0 h tree parsed.0 parsed.1
parses text (Err fault.Memory) h = tt
