-- What ends an AssignmentExpression, by the kind of the token and whether a line terminator stands before it.
use Rattle.std.proofs.Common.{◌≡◌, Bool, true, false, not, ◌&&◌, ◌||◌, if◌then◌else◌, refl, ap, ◌∙◌}
use Rattle.esb_token.specs.declared.kind.Kind.{Kind}
use Rattle.esb_token.specs.declared.kind.Kind.TheVariants as k
use Rattle.esb_token.specs.declared.token.Token.{Token}
use Rattle.esb_tree.specs.Operators.{level_of, is_assignment}
use Rattle.esb_tree.specs.Trees.{written}
use Rattle.esb_tree.specs.Yields.{tokens_of_expression}
use Rattle.esb_grammar.specs.declared.context.Context.{Context}
use Rattle.esb_grammar.specs.Edges.{ends_assignment}
use Rattle.esb_grammar.specs.Grammar.{loosest, assignment_expression}
use Rattle.esb_grammar.specs.Kinds.{begins_link, goes_on, is_binding, is_comma, is_function, is_star, is_update}
use Rattle.esb_grammar.specs.Semicolons.{ends_with, expression_goes_on}
use Rattle.esb_operator_laws.specs.Ends.{is_within}
use Rattle.esb_operator_laws.specs.Postfix.{ends_postfix}
use Rattle.esb_first_tokens.specs.First.{shows, begins_value}
use Rattle.esb_assignment_laws.specs.Values.{is_question, is_arrow, anywhere, ends_by}
use Rattle.esb_statement_laws.specs.Marks.{ends_expression}
use Rattle.esb_last_tokens.specs.Laws.{NextLineEnds, KindEnds}
use Rattle.esb_last_tokens.proofs.Edges.{postfix_of}

implied : (a b : Bool) → (not a || b) ≡ true → a ≡ true → b ≡ true
implied true b h g = h
implied false b h g = cc

-- what ends an expression that ends with no block and no `yield`
abbrev ends_plain : (has_in postfix line : Bool) → Kind → Bool
ends_plain has_in postfix line kind =
    ((postfix || not ((begins_link kind || (is_function kind && not line)) || (is_update kind && not line))) && not (is_within loosest (level_of has_in kind)))
    && not (is_question kind || (is_assignment kind || (not line && (is_arrow kind || is_binding kind))))

-- what ends one that does
abbrev ends_block : (line : Bool) → Kind → Bool
ends_block line kind = not (not line && (is_star kind || shows (begins_value anywhere) kind))

-- ---- the next line

either : (a b : Bool) → (a || b) ≡ true → a ≡ false → b ≡ true
either true b h g = cc
either false b h g = h

next_line : (has_in postfix : Bool) (kind : Kind) → (goes_on kind || ends_plain has_in postfix true kind) ≡ true
next_line has_in true k.Comma = refl
next_line has_in true _ = refl
next_line has_in false k.Comma = refl
next_line has_in false _ = refl

next_link : (has_in : Bool) (kind : Kind) → ((goes_on kind && not (begins_link kind)) || ends_plain has_in true true kind) ≡ true
next_link has_in k.Comma = refl
next_link has_in _ = refl

pub by_edges : (c : Context) (a b u : Bool) (t : Token) → t.after_line ≡ true → (if a then is_comma t.kind else (if u then goes_on t.kind && not (begins_link t.kind) else goes_on t.kind)) ≡ false → (a ≡ false → u ≡ true → b ≡ true) → ends_by c a b t ≡ true
by_edges c true b u t line none last = ap (λ l. ends_block l t.kind) line
by_edges c false b true t line none last =
    ap (λ l. ends_plain c.has_in b l t.kind) line ∙ ap (λ p. ends_plain c.has_in p true t.kind) (last refl refl) ∙ either _ _ (next_link c.has_in t.kind) none
by_edges c false b false t line none last = ap (λ l. ends_plain c.has_in b l t.kind) line ∙ either _ _ (next_line c.has_in b t.kind) none

pub next_line_ends : NextLineEnds
unfolding expression_goes_on
next_line_ends text c x t good line none = by_edges c (ends_assignment x) (ends_postfix x) (ends_with is_update (tokens_of_expression written x)) t line none (λ block last. postfix_of text (assignment_expression good) block last)

-- ---- what ends all

all_end : (has_in postfix line : Bool) (kind : Kind) → (not (ends_expression kind || is_comma kind) || ends_plain has_in postfix line kind) ≡ true
all_end has_in true true k.Comma = refl
all_end has_in true true _ = refl
all_end has_in true false k.Comma = refl
all_end has_in true false _ = refl
all_end has_in false true k.Comma = refl
all_end has_in false true _ = refl
all_end has_in false false k.Comma = refl
all_end has_in false false _ = refl

blocks_end : (line : Bool) (kind : Kind) → (not (ends_expression kind || is_comma kind) || ends_block line kind) ≡ true
blocks_end true k.Comma = refl
blocks_end true _ = refl
blocks_end false k.Comma = refl
blocks_end false _ = refl

each_ends : (c : Context) (a b : Bool) (t : Token) → ends_expression t.kind || is_comma t.kind ≡ true → ends_by c a b t ≡ true
each_ends c true b t h = implied _ _ (blocks_end t.after_line t.kind) h
each_ends c false b t h = implied _ _ (all_end c.has_in b t.after_line t.kind) h

pub kind_ends : KindEnds
kind_ends c x t h = each_ends c (ends_assignment x) (ends_postfix x) t h
