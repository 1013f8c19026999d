-- The texts of the samples of semicolons.
use Rattle.std.proofs.Common.{◌≡◌, ℕ, Bool, true, false, not, ◌&&◌, ◌||◌, List, [], ◌∷◌, ◌++◌, refl, ap, sym, ◌∙◌, codes}
use Rattle.std.specs.Prelude.{Ok}
use Rattle.esb_token.specs.declared.kind.Kind.TheVariants as k
use Rattle.esb_token.specs.declared.token.Token.{Token}
use Rattle.esb_token.specs.declared.goal.Goal.TheVariants as goal
use Rattle.esb_token.specs.Characters.{at_line_end, character, code_point}
use Rattle.esb_token.specs.Gaps.{gap, separator, comment, gap_has_line, has_line}
use Rattle.esb_token.specs.Punctuators.{punctuator, operator, exclamation}
use Rattle.esb_token.specs.Runs.{run, run_any}
use Rattle.esb_token.specs.Tokens.{next, next_from, token, skipped, division, slash, right_brace}
use Rattle.esb_tree.specs.declared.expressions.Expression.{Expression}
use Rattle.esb_tree.specs.declared.functions.ConciseBody.TheVariants as cb
use Rattle.esb_tree.specs.declared.statements.Block.{Block, roll-Block}
use Rattle.esb_tree.specs.Trees.{written}
use Rattle.esb_tree.specs.Yields.{Tokens, tokens_of_expression, tokens_of_concise_body}
use Rattle.esb_tree.proofs.TokenLines.{tokens_Primary, tokens_PostfixUpdate, tokens_Arrow, tokens_ConciseBlock, tokens_Block}
use Rattle.esb_grammar.specs.Edges.{ends_assignment}
use Rattle.esb_grammar.specs.Kinds.{is_binding, is_let, is_left_brace, is_semicolon, is_right_brace, is_end}
use Rattle.esb_grammar.specs.SemicolonSamples.{at, name, update, arrow, MayBeLeftOut, MayNotBeLeftOut}
use Rattle.esb_grammar.specs.Semicolons.{lets_end, end_from, is_one, tokens_go_on, expression_goes_on, statement_goes_on, is_other}
use Rattle.esb_grammar.proofs.EdgeLines.{ends_Primary, ends_PostfixUpdate, ends_Arrow, ends_ConciseBlock}

-- the tokens and the end of the samples

update_tokens : tokens_of_expression written update ≡ at k.Name 0 1 ∷ at k.PlusPlus 1 3 ∷ []
update_tokens = tokens_PostfixUpdate written name (at k.PlusPlus 1 3) ∙ ap (λ ts. ts ++ (at k.PlusPlus 1 3 ∷ [])) (tokens_Primary written (at k.Name 0 1))

block : Block
block = roll-Block (record { begin = at k.LeftBrace 3 4; body = []; ending = at k.RightBrace 4 5 })

arrow_tokens : tokens_of_expression written arrow ≡ at k.Name 0 1 ∷ at k.Arrow 1 3 ∷ at k.LeftBrace 3 4 ∷ at k.RightBrace 4 5 ∷ []
unfolding block
arrow_tokens =
    tokens_Arrow written name (at k.Arrow 1 3) (cb.ConciseBlock block)
    ∙ ap (λ ts. ts ++ (at k.Arrow 1 3 ∷ tokens_of_concise_body written (cb.ConciseBlock block))) (tokens_Primary written (at k.Name 0 1))
    ∙ ap (λ ts. at k.Name 0 1 ∷ at k.Arrow 1 3 ∷ ts) (tokens_ConciseBlock written block ∙ tokens_Block written (at k.LeftBrace 3 4) [] (at k.RightBrace 4 5))

-- what an expression of some tokens goes on with
goes : Bool → Tokens → Token → Bool
goes ends ts t = tokens_go_on ends ts t.kind || (is_one is_let ts && (is_binding t.kind || is_left_brace t.kind))

goes_by : (x : Expression) (ends : Bool) (ts : Tokens) (t : Token) → ends_assignment x ≡ ends → tokens_of_expression written x ≡ ts → statement_goes_on x t ≡ goes ends ts t
unfolding goes statement_goes_on expression_goes_on
goes_by x ends ts t edge tokens = ap (λ b. goes b (tokens_of_expression written x) t) edge ∙ ap (λ qs. goes ends qs t) tokens

-- whether a token lets it end
ends : Bool → Tokens → Token → Bool
ends edge ts t = (not (goes edge ts t) && not (is_semicolon t.kind)) && (t.after_line || is_right_brace t.kind || is_end t.kind)

ends_by : (text : List ℕ) (x : Expression) (edge : Bool) (ts : Tokens) (t : Token) → ends_assignment x ≡ edge → tokens_of_expression written x ≡ ts → next text (end_from 0 ts) goal.Div ≡ Ok t
    → lets_end (statement_goes_on x) (next text (end_from 0 (tokens_of_expression written x)) goal.Div) ≡ ends edge ts t
unfolding ends
ends_by text x edge ts t ended tokens is =
    ap (λ qs. lets_end (statement_goes_on x) (next text (end_from 0 qs) goal.Div)) tokens ∙ ap (lets_end (statement_goes_on x)) is
    ∙ ap (λ b. (not b && not (is_semicolon t.kind)) && (t.after_line || is_right_brace t.kind || is_end t.kind)) (goes_by x edge ts t ended tokens)

name_ends : (text : List ℕ) (t : Token) → next text 1 goal.Div ≡ Ok t → lets_end (statement_goes_on name) (next text (end_from 0 (tokens_of_expression written name)) goal.Div) ≡ ends false (at k.Name 0 1 ∷ []) t
name_ends text t is = ends_by text name false (at k.Name 0 1 ∷ []) t (ends_Primary (at k.Name 0 1)) (tokens_Primary written (at k.Name 0 1)) is

update_ends : (text : List ℕ) (t : Token) → next text 3 goal.Div ≡ Ok t → lets_end (statement_goes_on update) (next text (end_from 0 (tokens_of_expression written update)) goal.Div) ≡ ends false (at k.Name 0 1 ∷ at k.PlusPlus 1 3 ∷ []) t
update_ends text t is = ends_by text update false (at k.Name 0 1 ∷ at k.PlusPlus 1 3 ∷ []) t (ends_PostfixUpdate name (at k.PlusPlus 1 3)) update_tokens is

arrow_edge : ends_assignment arrow ≡ true
unfolding block
arrow_edge = ends_Arrow name (at k.Arrow 1 3) (cb.ConciseBlock block) ∙ ends_ConciseBlock block

arrow_ends : (text : List ℕ) (t : Token) → next text 5 goal.Div ≡ Ok t → lets_end (statement_goes_on arrow) (next text (end_from 0 (tokens_of_expression written arrow)) goal.Div) ≡ ends true (at k.Name 0 1 ∷ at k.Arrow 1 3 ∷ at k.LeftBrace 3 4 ∷ at k.RightBrace 4 5 ∷ []) t
arrow_ends text t is = ends_by text arrow true _ t arrow_edge arrow_tokens is

-- the tokens behind them

behind_a : next (codes "a") 1 goal.Div ≡ Ok (record { kind = k.End; start = 1; end = 1; after_line = false })
unfolding next next_from token skipped gap run separator at_line_end character code_point comment punctuator operator exclamation gap_has_line run_any has_line division slash right_brace
behind_a = refl

behind_a_brace : next (codes "a }") 1 goal.Div ≡ Ok (record { kind = k.RightBrace; start = 2; end = 3; after_line = false })
unfolding next next_from token skipped gap run separator at_line_end character code_point comment punctuator operator exclamation gap_has_line run_any has_line division slash right_brace
behind_a_brace = refl

behind_a_line : next (codes "a\n!a") 1 goal.Div ≡ Ok (record { kind = k.Exclamation; start = 2; end = 3; after_line = true })
unfolding next next_from token skipped gap run separator at_line_end character code_point comment punctuator operator exclamation gap_has_line run_any has_line division slash right_brace
behind_a_line = refl

behind_update_call : next (codes "a++\n(a)") 3 goal.Div ≡ Ok (record { kind = k.LeftParenthesis; start = 4; end = 5; after_line = true })
unfolding next next_from token skipped gap run separator at_line_end character code_point comment punctuator operator exclamation gap_has_line run_any has_line division slash right_brace
behind_update_call = refl

behind_arrow_call : next (codes "a=>{}\n(a)") 5 goal.Div ≡ Ok (record { kind = k.LeftParenthesis; start = 6; end = 7; after_line = true })
unfolding next next_from token skipped gap run separator at_line_end character code_point comment punctuator operator exclamation gap_has_line run_any has_line division slash right_brace
behind_arrow_call = refl

behind_arrow_slash : next (codes "a=>{}\n/a/") 5 goal.Div ≡ Ok (record { kind = k.Slash; start = 6; end = 7; after_line = true })
unfolding next next_from token skipped gap run separator at_line_end character code_point comment punctuator operator exclamation gap_has_line run_any has_line division slash right_brace
behind_arrow_slash = refl

behind_loop : next (codes ") !a") 1 goal.Div ≡ Ok (record { kind = k.Exclamation; start = 2; end = 3; after_line = false })
unfolding next next_from token skipped gap run separator at_line_end character code_point comment punctuator operator exclamation gap_has_line run_any has_line division slash right_brace
behind_loop = refl

behind_one_line : next (codes "a !a") 1 goal.Div ≡ Ok (record { kind = k.Exclamation; start = 2; end = 3; after_line = false })
unfolding next next_from token skipped gap run separator at_line_end character code_point comment punctuator operator exclamation gap_has_line run_any has_line division slash right_brace
behind_one_line = refl

behind_semicolon : next (codes "a\n;") 1 goal.Div ≡ Ok (record { kind = k.Semicolon; start = 2; end = 3; after_line = true })
unfolding next next_from token skipped gap run separator at_line_end character code_point comment punctuator operator exclamation gap_has_line run_any has_line division slash right_brace
behind_semicolon = refl

behind_call : next (codes "a\n(a)") 1 goal.Div ≡ Ok (record { kind = k.LeftParenthesis; start = 2; end = 3; after_line = true })
unfolding next next_from token skipped gap run separator at_line_end character code_point comment punctuator operator exclamation gap_has_line run_any has_line division slash right_brace
behind_call = refl

behind_slash : next (codes "a\n/a/") 1 goal.Div ≡ Ok (record { kind = k.Slash; start = 2; end = 3; after_line = true })
unfolding next next_from token skipped gap run separator at_line_end character code_point comment punctuator operator exclamation gap_has_line run_any has_line division slash right_brace
behind_slash = refl

behind_update_sum : next (codes "a++\n+a") 3 goal.Div ≡ Ok (record { kind = k.Plus; start = 4; end = 5; after_line = true })
unfolding next next_from token skipped gap run separator at_line_end character code_point comment punctuator operator exclamation gap_has_line run_any has_line division slash right_brace
behind_update_sum = refl

behind_arrow_comma : next (codes "a=>{}\n,a") 5 goal.Div ≡ Ok (record { kind = k.Comma; start = 6; end = 7; after_line = true })
unfolding next next_from token skipped gap run separator at_line_end character code_point comment punctuator operator exclamation gap_has_line run_any has_line division slash right_brace
behind_arrow_comma = refl

behind_loop_semicolon : next (codes ");") 1 goal.Div ≡ Ok (record { kind = k.Semicolon; start = 1; end = 2; after_line = false })
unfolding next next_from token skipped gap run separator at_line_end character code_point comment punctuator operator exclamation gap_has_line run_any has_line division slash right_brace
behind_loop_semicolon = refl

pub may_be_left_out : MayBeLeftOut
unfolding goes ends
may_be_left_out =
    record {
      ending = name_ends (codes "a") (record { kind = k.End; start = 1; end = 1; after_line = false }) behind_a;
      brace = name_ends (codes "a }") (record { kind = k.RightBrace; start = 2; end = 3; after_line = false }) behind_a_brace;
      line = name_ends (codes "a\n!a") (record { kind = k.Exclamation; start = 2; end = 3; after_line = true }) behind_a_line;
      behind_update = update_ends (codes "a++\n(a)") (record { kind = k.LeftParenthesis; start = 4; end = 5; after_line = true }) behind_update_call;
      behind_block = arrow_ends (codes "a=>{}\n(a)") (record { kind = k.LeftParenthesis; start = 6; end = 7; after_line = true }) behind_arrow_call;
      slash_behind_block = arrow_ends (codes "a=>{}\n/a/") (record { kind = k.Slash; start = 6; end = 7; after_line = true }) behind_arrow_slash;
      loop = ap is_other behind_loop;
    }

never : {b : Bool} → b ≡ true → b ≡ false → ⊥
never is not = let both : true ≡ false = sym is ∙ not in cc

pub may_not_be_left_out : MayNotBeLeftOut
unfolding goes ends
may_not_be_left_out =
    record {
      one_line = λ h. never h (name_ends (codes "a !a") (record { kind = k.Exclamation; start = 2; end = 3; after_line = false }) behind_one_line);
      semicolon = λ h. never h (name_ends (codes "a\n;") (record { kind = k.Semicolon; start = 2; end = 3; after_line = true }) behind_semicolon);
      parenthesis = λ h. never h (name_ends (codes "a\n(a)") (record { kind = k.LeftParenthesis; start = 2; end = 3; after_line = true }) behind_call);
      slash = λ h. never h (name_ends (codes "a\n/a/") (record { kind = k.Slash; start = 2; end = 3; after_line = true }) behind_slash);
      sum_behind_update = λ h. never h (update_ends (codes "a++\n+a") (record { kind = k.Plus; start = 4; end = 5; after_line = true }) behind_update_sum);
      comma_behind_block = λ h. never h (arrow_ends (codes "a=>{}\n,a") (record { kind = k.Comma; start = 6; end = 7; after_line = true }) behind_arrow_comma);
      loop = λ h. never h (ap is_other behind_loop_semicolon);
    }
