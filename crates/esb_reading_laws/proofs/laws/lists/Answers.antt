use Rattle.std.proofs.Common.{◌≡◌, true}
use Rattle.esb_reading_laws.specs.Laws.{syntax_of}
use Rattle.esb_reading_laws.proofs.Rows.{many_rule, no_items}
use Rattle.esb_reading_laws.proofs.Chains.{chain_rule}
use Rattle.esb_reading_laws.proofs.laws.lists.Goals as goal

pub returns : goal.returns
returns c start =
    record {
      many = λ text S. many_rule text (syntax_of S);
      none = no_items;
      chain = λ text n top S T head_test whole_test. chain_rule text n top (syntax_of S) (syntax_of T) (λ x. head_test x ≡ true) (λ x. whole_test x ≡ true);
    }
