-- What stands in statements and in items of a module is read exactly by readers that are tied.
use Rattle.std.proofs.Common.{ℕ, zero, suc, ◌<◌, true, false, List, ◌∙◌, arith}
use Rattle.esb_tree.specs.declared.statements.Statement.{Statement}
use Rattle.esb_grammar.specs.declared.context.Context.{Context}
use Rattle.esb_grammar.specs.Contexts.{inside, without_in, of_module}
use Rattle.esb_grammar.specs.Grammar.{IsAssignment, IsExpression, assignment_expression}
use Rattle.esb_reader.specs.declared.node.Node.{Node}
use Rattle.esb_reader.specs.Places.{Text}
use Rattle.esb_reader.specs.Reader.{Reader, fail}
use Rattle.esb_assignment_laws.specs.Values.{ends_value}
use Rattle.esb_binding_laws.specs.Laws.{ReadsLoose}
use Rattle.esb_binding_laws.proofs.Bindings.{loose_rule, stops_target}
use Rattle.esb_last_tokens.proofs.Alone.{let_alone}
use Rattle.esb_last_tokens.proofs.Ending.{kind_ends, next_line_ends}
use Rattle.esb_literal_laws.proofs.TargetParts.{below_rule}
use Rattle.esb_literal_laws.proofs.FunctionParts.{function_rule}
use Rattle.esb_literal_laws.proofs.ClassParts.{class_rule}
use Rattle.esb_statement_laws.specs.Exact.{ExactParts}
use Rattle.esb_statement_laws.specs.Handed.{Handed, ReadsExpressions}
use Rattle.esb_statement_laws.specs.Items as all
use Rattle.esb_statement_laws.specs.Loops.{ReadsHeads}
use Rattle.esb_statement_laws.specs.Within.{handed, ItemsExact}
use Rattle.esb_module_laws.specs.Module.{ExactNameless}
use Rattle.esb_value_laws.specs.Handed.{ExactBelow}
use Rattle.esb_value_laws.specs.Lets.{ends_with_let}
use Rattle.esb_value_laws.proofs.HandedRules.{values_within, bodies_within, heads_within}
use Rattle.esb_parse_laws.specs.Laws.{Knot}
use Rattle.esb_parse_laws.specs.Readers.{Readers, parts_of, nameless_of}
use Rattle.esb_parse_laws.proofs.Below.{exact_below, one_read, many_read, bare_read}
use Rattle.esb_parse_laws.proofs.Ends.{ends_value_with_let, value_first, expression_first, let_value_ends, let_ends, value_closes, closes, value_next_line, next_line, in_ends, of_binds, middle_no_sign}

module _ (text : Text) (r : Readers) (knot : Knot text r) (n : ℕ) (known : (m : ℕ) → m < n → ItemsExact text (parts_of text r) m) where
  below : ExactBelow text r.one r.many r.heads r.items n
  below = exact_below text r knot n known

  values_read : (c : Context) → ReadsExpressions text (IsAssignment text c) n (r.one c n)
  values_read c = record {
    stops = ends_value_with_let c;
    rule = one_read text r knot n known c;
    begins = λ x good. value_first text c x good;
    ends = λ x t good h. value_closes c x t h;
    next_line = λ x t good line none. value_next_line text c x t good line none;
    let_ends = λ t u h g. let_value_ends c t u h g;
    let_alone = λ x t good is h. let_alone text c x t (assignment_expression good) is h;
  }

  expressions_read : (c : Context) → ReadsExpressions text (IsExpression text c) n (r.many c n)
  expressions_read c = record {
    stops = ends_with_let c;
    rule = many_read text r knot n known c;
    begins = λ x good. expression_first text c x good;
    ends = λ x t good h. closes c x t h;
    next_line = λ x t good line none. next_line text c x t good line none;
    let_ends = λ t u h g. let_ends c t u h g;
    let_alone = λ x t good is h. let_alone text c x t good is h;
  }

  bindings_read : (c : Context) → ReadsLoose text r.one c n (ends_value c)
  bindings_read c =
      let b = below in
      loose_rule text r.one c n (ends_value c) (values_within text r.one r.many r.heads r.items n b n (omega arith)) (b.one_read c n (omega arith))
      (record { ends = λ x t good h. kind_ends c x t h; next_line = λ x t good line none. next_line_ends text c x t good line none })

  module _ (c : Context) (items : Context → Reader (Node (List Statement))) (statement : Context → Reader (Node Statement)) where
    abbrev Filled : Handed
    Filled = record (parts_of text r n) { items = items; statement = statement }

    heads_read : ReadsHeads text c n Filled
    unfolding expressions_read
    heads_read = record {
      bare = expressions_read (without_in c);
      bare_in = λ x t good h. in_ends c x t h;
      bare_of = λ i x j stands low word none. bare_read text r knot n known (without_in c) i x j stands low (of_binds text _ word) none;
      assigned = values_read (inside c);
      bindings = (bindings_read (without_in c)).reads;
      target_ends = λ x t good h. (bindings_read (without_in c)).stop x t ∙ stops_target (ends_value (without_in c)) t good ∙ middle_no_sign text t h;
    }

    exact_parts : ExactParts text c n Filled
    exact_parts = record {
      values = expressions_read (inside c);
      targets = below_rule text r.one c n (values_within text r.one r.many r.heads r.items n below n (omega arith));
      bindings = (bindings_read c).reads;
      heads = heads_read;
      functions_read = function_rule text r.one r.items true n (values_within text r.one r.many r.heads r.items n below n (omega arith)) (bodies_within text r.one r.many r.heads r.items n below n (omega arith));
      classes_read = class_rule text r.one r.heads r.items true c n (values_within text r.one r.many r.heads r.items n below n (omega arith)) (bodies_within text r.one r.many r.heads r.items n below n (omega arith)) (heads_within text r.one r.many r.heads r.items n below n (omega arith));
    }

  pub nameless_read : ExactNameless text n (parts_of text r n) (nameless_of text r n)
  nameless_read = record {
    values = values_read of_module;
    functions_read = function_rule text r.one r.items false n (values_within text r.one r.many r.heads r.items n below n (omega arith)) (bodies_within text r.one r.many r.heads r.items n below n (omega arith));
    classes_read = class_rule text r.one r.heads r.items false of_module n (values_within text r.one r.many r.heads r.items n below n (omega arith)) (bodies_within text r.one r.many r.heads r.items n below n (omega arith)) (heads_within text r.one r.many r.heads r.items n below n (omega arith));
  }

pub handed_read : (text : Text) (r : Readers) → Knot text r → (n : ℕ) → ((m : ℕ) → m < n → ItemsExact text (parts_of text r) m) → (c : Context) → ExactParts text c n (handed text (parts_of text r) n)
unfolding handed
handed_read text r knot zero known c = exact_parts text r knot zero known c (λ d. fail) (λ d. fail)
handed_read text r knot (suc n) known c = exact_parts text r knot (suc n) known c (λ d. all.items text d n (handed text (parts_of text r) n)) (λ d. all.statement text d n (handed text (parts_of text r) n) false)
