use Rattle.esb_tree.specs.Trees.{written}
use Rattle.esb_tree.specs.Yields.{tokens_of_expression}
use Rattle.esb_tree.proofs.TokenLines.{tokens_is_Dot, tokens_is_Index, tokens_is_Call, tokens_is_Tagged, tokens_is_TaggedTemplate, tokens_is_OptionalDot, tokens_is_OptionalIndex, tokens_is_OptionalCall}
use Rattle.esb_statement_tests.proofs.Lasts.{ends_one, ends_cons, ends_append, ends_is, ends_bracketed, ends_substitutions}
use Rattle.esb_statement_tests.proofs.edges.last_of_link.Goals as goal

pub returns-in-Dot : goal.returns-in-Dot
returns-in-Dot c before = (ends_is (tokens_is_Dot written _ _ _ c.in-Dot.is) (ends_cons _ (ends_one _))).is before

pub returns-in-Index : goal.returns-in-Index
returns-in-Index c before = (ends_is (tokens_is_Index written _ _ _ _ c.in-Index.is) (ends_cons _ (ends_append (tokens_of_expression written c.in-Index.field-1) (ends_one _)))).is before

pub returns-in-Call : goal.returns-in-Call
returns-in-Call c before = (ends_is (tokens_is_Call written _ _ c.in-Call.is) (ends_bracketed c.in-Call.arguments)).is before

pub returns-in-Tagged : goal.returns-in-Tagged
returns-in-Tagged c before = (ends_is (tokens_is_Tagged written _ _ c.in-Tagged.is) (ends_one _)).is before

pub returns-in-TaggedTemplate : goal.returns-in-TaggedTemplate
returns-in-TaggedTemplate c before = (ends_is (tokens_is_TaggedTemplate written _ _ c.in-TaggedTemplate.is) (ends_substitutions c.in-TaggedTemplate.template)).is before

pub returns-in-OptionalDot : goal.returns-in-OptionalDot
returns-in-OptionalDot c before = (ends_is (tokens_is_OptionalDot written _ _ _ c.in-OptionalDot.is) (ends_cons _ (ends_one _))).is before

pub returns-in-OptionalIndex : goal.returns-in-OptionalIndex
returns-in-OptionalIndex c before = (ends_is (tokens_is_OptionalIndex written _ _ _ _ _ c.in-OptionalIndex.is) (ends_cons _ (ends_cons _ (ends_append (tokens_of_expression written c.in-OptionalIndex.field-2) (ends_one _))))).is before

pub returns-in-OptionalCall : goal.returns-in-OptionalCall
returns-in-OptionalCall c before = (ends_is (tokens_is_OptionalCall written _ _ _ c.in-OptionalCall.is) (ends_cons _ (ends_bracketed c.in-OptionalCall.arguments))).is before
