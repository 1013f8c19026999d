-- Bodies of arrow functions are read exactly.
use Rattle.std.proofs.Common.{◌≡◌, ◌⊎◌, inl, inr, ℕ, true, false, not, List, ◌∷◌, refl, ap, sym, ◌∙◌, subst}
use Rattle.esb_token.specs.declared.kind.Kind.{Kind}
use Rattle.esb_token.specs.declared.kind.Kind.TheVariants as k
use Rattle.esb_token.specs.declared.token.Token.{Token}
use Rattle.esb_token.specs.declared.goal.Goal.TheVariants as goal
use Rattle.esb_token.specs.Goals.{is_division}
use Rattle.esb_token.specs.Tokens.{SpelledBetween}
use Rattle.esb_tree.specs.declared.expressions.Expression.{Expression}
use Rattle.esb_tree.specs.declared.functions.ConciseBody.{ConciseBody}
use Rattle.esb_tree.specs.declared.functions.ConciseBody.TheVariants as cb
use Rattle.esb_tree.specs.declared.statements.Block.{Block}
use Rattle.esb_tree.specs.Levels.{depth_of_concise_body}
use Rattle.esb_tree.specs.Trees.{written}
use Rattle.esb_tree.specs.Yields.{tokens_of_expression, tokens_of_block, tokens_of_concise_body}
use Rattle.esb_tree.proofs.TokenLines.{tokens_ConciseValue, tokens_ConciseBlock, tokens_Block}
use Rattle.esb_tree.proofs.LevelLines.{levels_ConciseValue, levels_ConciseBlock}
use Rattle.esb_grammar.specs.declared.context.Context.{Context}
use Rattle.esb_grammar.specs.Contexts.{inside}
use Rattle.esb_grammar.specs.Grammar.{IsAssignment, IsConciseBody, concise_value, concise_block, IsBlock, braces}
use Rattle.esb_grammar.specs.Kinds.{is_left_brace}
use Rattle.esb_grammar.specs.Words.{begins_brace}
use Rattle.esb_grammar.proofs.EdgeLines.{ends_ConciseValue}
use Rattle.esb_reader.specs.declared.node.Node.{Node}
use Rattle.esb_reader.specs.Kinds.{agrees}
use Rattle.esb_reader.specs.Places.{Text}
use Rattle.esb_reader.specs.Reader.{Reader}
use Rattle.esb_reader.specs.Parts.{behind, made}
use Rattle.esb_reader.specs.Stands.{Syntax, Rule, Made}
use Rattle.esb_reading_laws.proofs.Composed.{plain_rule, choice_rule, same_rule}
use Rattle.esb_expression_laws.specs.Leaves.{expressions}
use Rattle.esb_operator_laws.proofs.PostfixLines.{postfix_ConciseValue}
use Rattle.esb_operator_laws.proofs.TokenTests.{not_true}
use Rattle.esb_first_tokens.proofs.Firsts.{value_begins}
use Rattle.esb_literal_laws.specs.Forks.{guard}
use Rattle.esb_literal_laws.specs.Laws.{blocks}
use Rattle.esb_literal_laws.proofs.Forks.{guard_rule}
use Rattle.esb_literal_laws.proofs.Seen.{sees, sees_kind}
use Rattle.esb_assignment_laws.specs.Values.{ends_value}
use Rattle.esb_value_laws.specs.Bodies.{bodies, begins_block, before_no_block, concise}
use Rattle.esb_value_laws.specs.Ends.{ends_body}
use Rattle.esb_value_laws.specs.Laws.{BodyRule}
use Rattle.esb_value_laws.proofs.Places.{ends_same, agrees_or, slash_seen}

division_no_brace : (kind : Kind) → is_division kind ≡ true → is_left_brace kind ≡ false
division_no_brace k.LeftBrace h = cc
division_no_brace _ h = refl

-- whether `{` is seen is whether it is the first token
brace_at : (text : Text) (i : ℕ) (t : Token) (ts : List Token) (j : ℕ) → SpelledBetween text i (t ∷ ts) j → (agrees goal.Div t.kind ≡ true) ⊎ (t.kind ≡ k.RegExp) → begins_block (behind text i) ≡ is_left_brace t.kind
brace_at text i t ts j h (inl same) = ap begins_block (sees text i t ts j h same)
brace_at text i t ts j h (inr e) = division_no_brace (behind text i).kind (slash_seen text i t h.0 e) ∙ sym (ap is_left_brace e)

module _ (text : Text) (c : Context) (n : ℕ) (block : Reader (Node Block)) (value : Reader (Node Expression)) (block_rule : Rule text (blocks text (inside c)) n n (λ _ _. true) block) (value_rule : Rule text (expressions (IsAssignment text c)) n n (ends_value c) value) where
  abbrev Values : Syntax Expression
  Values = expressions (λ x. IsAssignment text c x × (not (begins_brace (tokens_of_expression written x)) ≡ true))

  no_block_seen : (x : Expression) (i j : ℕ) → IsAssignment text c x → SpelledBetween text i (tokens_of_expression written x) j → before_no_block text i ≡ not (begins_brace (tokens_of_expression written x))
  no_block_seen x i j good h =
      let b = value_begins text good in
      let spelled = subst (λ us. SpelledBetween text i us j) b.is h in
      ap not (brace_at text i b.first b.rest j spelled (agrees_or c b.first.kind b.kind)) ∙ ap (λ ts. not (begins_brace ts)) (sym b.is)

  block_seen : (b : Block) (i j : ℕ) → IsBlock text (inside c) b → SpelledBetween text i (tokens_of_block written b) j → begins_block (behind text i) ≡ true
  block_seen b i j (braces begin body ending first items last) h =
      let spelled = subst (λ ts. SpelledBetween text i ts j) (tokens_Block written begin body ending) h in
      ap begins_block (sees_kind text i begin _ j k.LeftBrace spelled first refl) ∙ ap is_left_brace first

  bodies_there : (x : ConciseBody) → Made (blocks text (inside c)) cb.ConciseBlock x ⊎ Made Values cb.ConciseValue x → IsConciseBody text c x
  bodies_there x (inl (b, is, good)) = subst (IsConciseBody text c) (sym is) (concise_block good)
  bodies_there x (inr (y, is, (good, none))) = subst (IsConciseBody text c) (sym is) (concise_value (not_true _ none) good)

  bodies_back : (x : ConciseBody) → IsConciseBody text c x → Made (blocks text (inside c)) cb.ConciseBlock x ⊎ Made Values cb.ConciseValue x
  bodies_back x (concise_value {x = y} none good) = inr (y, refl, (good, ap not none))
  bodies_back x (concise_block {block = b} good) = inl (b, refl, good)

  concise_read : Rule text (bodies text c) n n (ends_body c) (concise text block value)
  unfolding concise
  concise_read =
      same_rule text (record { yields = tokens_of_concise_body written; levels_of = depth_of_concise_body; Good = λ x. Made (blocks text (inside c)) cb.ConciseBlock x ⊎ Made Values cb.ConciseValue x }) (bodies text c) n n (ends_body c) (ends_body c) (concise text block value)
      (choice_rule text (bodies text c) (Made (blocks text (inside c)) cb.ConciseBlock) (Made Values cb.ConciseValue) n n (ends_body c) begins_block (made cb.ConciseBlock 0 block) (made cb.ConciseValue 0 (guard (before_no_block text) value))
      (plain_rule text (blocks text (inside c)) (tokens_of_concise_body written) depth_of_concise_body n n (λ _ _. true) (ends_body c) cb.ConciseBlock block block_rule (λ b. tokens_ConciseBlock written b) (λ b. levels_ConciseBlock b) (λ b t h. refl))
      (plain_rule text Values (tokens_of_concise_body written) depth_of_concise_body n n (ends_value c) (ends_body c) cb.ConciseValue (guard (before_no_block text) value)
      (guard_rule text (expressions (IsAssignment text c)) n n (ends_value c) (before_no_block text) (λ x. not (begins_brace (tokens_of_expression written x))) value value_rule no_block_seen)
      (λ x. tokens_ConciseValue written x) (λ x. levels_ConciseValue x) (λ x t h. ends_same c t (ends_ConciseValue x) (postfix_ConciseValue x) h))
      (λ x i j (b, is, good) h. block_seen b i j good (subst (λ ts. SpelledBetween text i ts j) (ap (tokens_of_concise_body written) is ∙ tokens_ConciseBlock written b) h))
      (λ x i j (y, is, (good, none)) h stop. not_true _ (no_block_seen y i j good (subst (λ ts. SpelledBetween text i ts j) (ap (tokens_of_concise_body written) is ∙ tokens_ConciseValue written y) h) ∙ none)))
      refl refl bodies_there bodies_back (λ x t good h. h)

pub body_rule : BodyRule
body_rule text c n block value blocks_rule rule = concise_read text c n block value blocks_rule rule
