-- Functions by the word `function` are read exactly.
use Rattle.std.proofs.Common.{◌≡◌, ◌⊎◌, inl, inr, ℕ, max, Bool, true, false, not, List, [], ◌∷◌, ◌++◌, Option, Some, None, codes, refl, ap, sym, ◌∙◌, subst, arith}
use Rattle.esb_token.specs.declared.kind.Kind.{Kind}
use Rattle.esb_token.specs.declared.kind.Kind.TheVariants as k
use Rattle.esb_token.specs.declared.token.Token.{Token}
use Rattle.esb_token.specs.declared.goal.Goal.TheVariants as goal
use Rattle.esb_token.specs.Tokens.{SpelledBetween}
use Rattle.esb_tree.specs.declared.expressions.Expression.{Expression}
use Rattle.esb_tree.specs.declared.functions.Function.{Function, roll-Function}
use Rattle.esb_tree.specs.declared.patterns.Bracketed.{Bracketed}
use Rattle.esb_tree.specs.declared.statements.Block.{Block}
use Rattle.esb_tree.specs.declared.statements.Statement.{Statement}
use Rattle.esb_tree.specs.Levels.{depth_of_bracketed, depth_of_block, depth_of_function}
use Rattle.esb_tree.specs.Trees.{written}
use Rattle.esb_tree.specs.Yields.{maybe_token, tokens_of_function}
use Rattle.esb_tree.proofs.TokenLines.{tokens_Function}
use Rattle.esb_tree.proofs.LevelLines.{levels_Function}
use Rattle.esb_grammar.specs.declared.context.Context.{Context}
use Rattle.esb_grammar.specs.declared.form.Form.TheVariants as f
use Rattle.esb_grammar.specs.Contexts.{of_function}
use Rattle.esb_grammar.specs.Grammar.{IsBracketed, IsBlock, IsFunction, nameless_function, named_function}
use Rattle.esb_grammar.specs.Kinds.{is_binding, is_star}
use Rattle.esb_grammar.specs.Words.{is_async, if_there, kind_if_there, on_line_behind}
use Rattle.esb_reader.specs.declared.node.Node.{Node}
use Rattle.esb_reader.specs.Places.{Text}
use Rattle.esb_reader.specs.Reader.{Reader}
use Rattle.esb_reader.specs.Parts.{behind, both, token, token_in, made, empty, optional}
use Rattle.esb_reader.specs.Stands.{Syntax, Rule, Made, tokens, tokens_in, pairs, which}
use Rattle.esb_reading_laws.proofs.Composed.{token_in_rule, both_rule, plain_rule, choice_rule, empty_rule, same_rule}
use Rattle.esb_expression_laws.specs.Laws.{lists}
use Rattle.esb_literal_laws.specs.Forks.{fork, guard, second, on_one_line}
use Rattle.esb_literal_laws.specs.Bindings.{parameters}
use Rattle.esb_literal_laws.specs.Methods.{function_context, block}
use Rattle.esb_literal_laws.specs.Functions as read
use Rattle.esb_literal_laws.specs.Functions.{Rest, third, make_function, make_generator, make_async, make_async_generator}
use Rattle.esb_literal_laws.specs.Laws.{ReadsWithin, ReadsBodies, Own_name, own_names, blocks, functions, FunctionRule}
use Rattle.esb_literal_laws.proofs.Forks.{fork_rule, guard_rule}
use Rattle.esb_literal_laws.proofs.Seen.{sees, sees_kind}
use Rattle.esb_literal_laws.proofs.Sequences.{free_rule, lead_rule, lead_in_rule}
use Rattle.esb_literal_laws.proofs.TargetParts.{parameters_rule, bracketed_seen, binding_agrees}
use Rattle.esb_literal_laws.proofs.MethodParts.{async_agrees, no_word, block_rule}

-- ---- names that may be absent

module _ (text : Text) (n : ℕ) (ends : Token → Bool) (apart : (t : Token) → ends t ≡ true → is_binding t.kind ≡ false) where
  abbrev bounds : Token → Bool
  bounds t = is_binding t.kind

  abbrev of_option : (Option Token → Type 0) → Syntax (Option Token)
  of_option Good = record { yields = maybe_token; levels_of = λ x. 0; Good = Good }

  abbrev IsThere : Option Token → Type 0
  IsThere = Made (tokens_in bounds) Some

  abbrev one : Reader (Node Token)
  one = token_in text goal.Div bounds

  there_rule : Rule text (of_option IsThere) n n (λ _. ends) (made Some 0 one)
  there_rule = plain_rule text (tokens_in bounds) maybe_token (λ x. 0) n n (λ _ _. true) (λ _. ends) Some one (token_in_rule text n n goal.Div bounds (λ t h. binding_agrees t.kind h)) (λ t. refl) (λ t. refl) (λ x t h. refl)

  shows : (x : Option Token) (i j : ℕ) → IsThere x → SpelledBetween text i (maybe_token x) j → bounds (behind text i) ≡ true
  shows x i j good h = ap bounds (sees text i good.0 [] j (subst (λ y. SpelledBetween text i (maybe_token y) j) good.1 h) (binding_agrees good.0.kind good.2)) ∙ good.2

  absent : (x : Option Token) (i j : ℕ) → x ≡ None → SpelledBetween text i (maybe_token x) j → ends (behind text j) ≡ true → bounds (behind text i) ≡ false
  absent x i j e h stop =
      let here : i ≡ j = subst (λ y. SpelledBetween text i (maybe_token y) j) e h in
      ap (λ m. bounds (behind text m)) here ∙ apart (behind text j) stop

  own_true : (x : Option Token) → IsThere x → Own_name true x
  own_true x h = subst (Own_name true) (sym h.1) h.2

  true_own : (x : Option Token) → Own_name true x → IsThere x
  true_own None h = absurd h
  true_own (Some t) h = (t, refl, h)

  own_false : (x : Option Token) → IsThere x ⊎ (x ≡ None) → Own_name false x
  own_false x (inl h) = subst (Own_name false) (sym h.1) h.2
  own_false x (inr h) = subst (Own_name false) (sym h) tt

  false_own : (x : Option Token) → Own_name false x → IsThere x ⊎ (x ≡ None)
  false_own None h = inr refl
  false_own (Some t) h = inl (t, refl, h)

  pub own_name_rule : (is_named : Bool) → Rule text (own_names is_named) n n (λ _. ends) (read.own_name text is_named)
  unfolding read.own_name
  own_name_rule true = same_rule text (of_option IsThere) (own_names true) n n (λ _. ends) (λ _. ends) (made Some 0 one) there_rule refl refl own_true true_own (λ x t good h. h)
  own_name_rule false =
      same_rule text (of_option (λ x. IsThere x ⊎ (x ≡ None))) (own_names false) n n (λ _. ends) (λ _. ends) (optional text bounds one)
      (choice_rule text (own_names false) IsThere (λ x. x ≡ None) n n (λ _. ends) bounds (made Some 0 one) (empty None) there_rule (empty_rule text maybe_token (λ x. 0) n n (λ _. ends) None refl refl) shows absent)
      refl refl own_false false_own (λ x t good h. h)

-- ---- what follows the name

abbrev is_opening : Kind → Bool
is_opening k.LeftParenthesis = true
is_opening _ = false

opening_apart : (kind : Kind) → is_opening kind ≡ true → is_binding kind ≡ false
opening_apart k.LeftParenthesis h = refl
opening_apart _ h = cc

binding_no_star : (kind : Kind) → is_binding kind ≡ true → is_star kind ≡ false
binding_no_star k.Star h = cc
binding_no_star _ h = refl

star_is : (kind : Kind) → is_star kind ≡ true → kind ≡ k.Star
star_is k.Star h = refl
star_is _ h = cc

-- a function of its parts
built : (text : Text) (is_named : Bool) (async_word : Option Token) (word : Token) (star name : Option Token) (ps : Bracketed) (body : Block) → if_there (is_async text) async_word ≡ true → word.kind ≡ k.Function → on_line_behind async_word (word ∷ []) ≡ true → kind_if_there is_star star ≡ true
    → Own_name is_named name → IsBracketed text f.Parameters (of_function async_word star) ps → IsBlock text (of_function async_word star) body
    → IsFunction text is_named (roll-Function (record { async_word = async_word; word = word; star = star; name = name; parameters = ps; body = body }))
built text is_named async_word word star (Some t) ps body h1 h2 h3 h4 own h5 h6 = named_function async_word word star t ps body h1 h2 h3 h4 own h5 h6
built text false async_word word star None ps body h1 h2 h3 h4 own h5 h6 = nameless_function async_word word star ps body h1 h2 h3 h4 h5 h6
built text true async_word word star None ps body h1 h2 h3 h4 own h5 h6 = absurd own

module _ (text : Text) (values : Context → ℕ → Reader (Node Expression)) (items : Context → ℕ → Reader (Node (List Statement))) (is_named : Bool) (n : ℕ) (r : ReadsWithin text n values) (b : ReadsBodies text n items) where
  abbrev opens : Token → Bool
  opens t = is_opening t.kind

  abbrev Bodies : Context → Syntax (Bracketed × Block)
  Bodies own = pairs (lists text f.Parameters own) (blocks text own)

  abbrev Rests : Context → Syntax Rest
  Rests own = pairs (own_names is_named) (Bodies own)

  body_opens : (own : Context) (d : Bracketed × Block) (m j : ℕ) → (Bodies own).Good d → SpelledBetween text m ((Bodies own).yields d) j → (behind text m).kind ≡ k.LeftParenthesis
  body_opens own d m j good h = bracketed_seen text f.Parameters own d.0 _ m j good.0 h

  rest_rule : (own : Context) → Rule text (Rests own) n n (λ _ _. true) (read.function_rest text values items is_named own n)
  unfolding read.function_rest
  rest_rule own =
      both_rule text (own_names is_named) (Bodies own) n n (λ _. opens) (λ _ _. true) (λ _ _. true) (read.own_name text is_named) (both (parameters text values own n) (block text values items own n))
      (own_name_rule text n opens (λ t h. opening_apart t.kind h) is_named)
      (free_rule text (lists text f.Parameters own) (blocks text own) n (λ _ _. true) (parameters text values own n) (block text values items own n) (parameters_rule text values own n r) (block_rule text values items own n r b own))
      (λ a d t h. refl) (λ a d m j ga gd h stop. ap is_opening (body_opens own d m j gd h))

  -- no `*` begins what follows
  rest_no_star : (own : Context) (d : Rest) (m j : ℕ) → (Rests own).Good d → SpelledBetween text m ((Rests own).yields d) j → is_star (behind text m).kind ≡ false
  rest_no_star own d m j good h = by_name d.0 good.0 h
    where
      by_name : (x : Option Token) → Own_name is_named x → SpelledBetween text m (maybe_token x ++ (Bodies own).yields d.1) j → is_star (behind text m).kind ≡ false
      by_name None g s = ap is_star (body_opens own d.1 m j good.1 s)
      by_name (Some t) g s = ap (λ (u : Token). is_star u.kind) (sees text m t _ j s (binding_agrees t.kind g)) ∙ binding_no_star t.kind g

  -- ---- the kinds of function

  abbrev of_functions : (Function → Type 0) → Syntax Function
  of_functions Good = record { yields = tokens_of_function written; levels_of = depth_of_function; Good = Good }

  abbrev Plain_parts : Syntax (Token × Rest)
  Plain_parts = pairs (tokens k.Function) (Rests (function_context false false))

  abbrev IsPlain : Function → Type 0
  IsPlain = Made Plain_parts make_function

  abbrev Generator_parts : Syntax (Token × (Token × Rest))
  Generator_parts = pairs (tokens k.Function) (pairs (tokens k.Star) (Rests (function_context false true)))

  abbrev IsGenerator : Function → Type 0
  IsGenerator = Made Generator_parts make_generator

  abbrev Behind_async : Syntax (Token × Rest)
  Behind_async = pairs (tokens k.Function) (Rests (function_context true false))

  abbrev Async_line : Syntax (Token × Rest)
  Async_line = which Behind_async (λ p. Behind_async.Good p × (not p.0.after_line ≡ true))

  abbrev Async_parts : Syntax (Token × (Token × Rest))
  Async_parts = pairs (tokens_in (is_async text)) Async_line

  abbrev IsAsync : Function → Type 0
  IsAsync = Made Async_parts make_async

  abbrev Behind_both : Syntax (Token × (Token × Rest))
  Behind_both = pairs (tokens k.Function) (pairs (tokens k.Star) (Rests (function_context true true)))

  abbrev Both_line : Syntax (Token × (Token × Rest))
  Both_line = which Behind_both (λ p. Behind_both.Good p × (not p.0.after_line ≡ true))

  abbrev Async_generator_parts : Syntax (Token × (Token × (Token × Rest)))
  Async_generator_parts = pairs (tokens_in (is_async text)) Both_line

  abbrev IsAsyncGenerator : Function → Type 0
  IsAsyncGenerator = Made Async_generator_parts make_async_generator

  abbrev depth : Rest → ℕ
  depth d = max (depth_of_bracketed d.1.0) (depth_of_block d.1.1)

  two : (l : ℕ) → l ≡ max 0 (max 0 l)
  two l = omega arith

  three : (l : ℕ) → l ≡ max 0 (max 0 (max 0 l))
  three l = omega arith

  four : (l : ℕ) → l ≡ max 0 (max 0 (max 0 (max 0 l)))
  four l = omega arith

  plain_rule_of : Rule text (of_functions IsPlain) n n (λ _ _. true) (read.plain_function text values items is_named n)
  unfolding read.plain_function
  plain_rule_of =
      plain_rule text Plain_parts (tokens_of_function written) depth_of_function n n (λ _ _. true) (λ _ _. true) make_function (both (token text k.Function) (read.function_rest text values items is_named (function_context false false) n))
      (lead_rule text (Rests (function_context false false)) n k.Function (λ _ _. true) (read.function_rest text values items is_named (function_context false false) n) refl (rest_rule (function_context false false)))
      (λ p. tokens_Function written None p.0 None p.1.0 p.1.1.0 p.1.1.1) (λ p. levels_Function None p.0 None p.1.0 p.1.1.0 p.1.1.1 ∙ two (depth p.1)) (λ x t h. refl)

  generator_rule : Rule text (of_functions IsGenerator) n n (λ _ _. true) (read.generator_function text values items is_named n)
  unfolding read.generator_function
  generator_rule =
      plain_rule text Generator_parts (tokens_of_function written) depth_of_function n n (λ _ _. true) (λ _ _. true) make_generator (both (token text k.Function) (both (token text k.Star) (read.function_rest text values items is_named (function_context false true) n)))
      (lead_rule text (pairs (tokens k.Star) (Rests (function_context false true))) n k.Function (λ _ _. true) (both (token text k.Star) (read.function_rest text values items is_named (function_context false true) n)) refl
      (lead_rule text (Rests (function_context false true)) n k.Star (λ _ _. true) (read.function_rest text values items is_named (function_context false true) n) refl (rest_rule (function_context false true))))
      (λ p. tokens_Function written None p.0 (Some p.1.0) p.1.1.0 p.1.1.1.0 p.1.1.1.1) (λ p. levels_Function None p.0 (Some p.1.0) p.1.1.0 p.1.1.1.0 p.1.1.1.1 ∙ three (depth p.1.1)) (λ x t h. refl)

  async_line : (p : Token × Rest) (i j : ℕ) → Behind_async.Good p → SpelledBetween text i (Behind_async.yields p) j → on_one_line text i ≡ not p.0.after_line
  async_line p i j good h = ap (λ (u : Token). not u.after_line) (sees_kind text i p.0 _ j k.Function h good.0 refl)

  async_rule : Rule text (of_functions IsAsync) n n (λ _ _. true) (read.async_function text values items is_named n)
  unfolding read.async_function
  async_rule =
      plain_rule text Async_parts (tokens_of_function written) depth_of_function n n (λ _ _. true) (λ _ _. true) make_async (both (token_in text goal.Div (is_async text)) (guard (on_one_line text) (both (token text k.Function) (read.function_rest text values items is_named (function_context true false) n))))
      (lead_in_rule text Async_line n (is_async text) (λ _ _. true) (guard (on_one_line text) (both (token text k.Function) (read.function_rest text values items is_named (function_context true false) n))) (async_agrees text)
      (guard_rule text Behind_async n n (λ _ _. true) (on_one_line text) (λ p. not p.0.after_line) (both (token text k.Function) (read.function_rest text values items is_named (function_context true false) n))
      (lead_rule text (Rests (function_context true false)) n k.Function (λ _ _. true) (read.function_rest text values items is_named (function_context true false) n) refl (rest_rule (function_context true false))) async_line))
      (λ p. tokens_Function written (Some p.0) p.1.0 None p.1.1.0 p.1.1.1.0 p.1.1.1.1) (λ p. levels_Function (Some p.0) p.1.0 None p.1.1.0 p.1.1.1.0 p.1.1.1.1 ∙ three (depth p.1.1)) (λ x t h. refl)

  both_line : (p : Token × (Token × Rest)) (i j : ℕ) → Behind_both.Good p → SpelledBetween text i (Behind_both.yields p) j → on_one_line text i ≡ not p.0.after_line
  both_line p i j good h = ap (λ (u : Token). not u.after_line) (sees_kind text i p.0 ((pairs (tokens k.Star) (Rests (function_context true true))).yields p.1) j k.Function h good.0 refl)

  async_generator_rule : Rule text (of_functions IsAsyncGenerator) n n (λ _ _. true) (read.async_generator_function text values items is_named n)
  unfolding read.async_generator_function
  async_generator_rule =
      plain_rule text Async_generator_parts (tokens_of_function written) depth_of_function n n (λ _ _. true) (λ _ _. true) make_async_generator
      (both (token_in text goal.Div (is_async text)) (guard (on_one_line text) (both (token text k.Function) (both (token text k.Star) (read.function_rest text values items is_named (function_context true true) n)))))
      (lead_in_rule text Both_line n (is_async text) (λ _ _. true) (guard (on_one_line text) (both (token text k.Function) (both (token text k.Star) (read.function_rest text values items is_named (function_context true true) n)))) (async_agrees text)
      (guard_rule text Behind_both n n (λ _ _. true) (on_one_line text) (λ p. not p.0.after_line) (both (token text k.Function) (both (token text k.Star) (read.function_rest text values items is_named (function_context true true) n)))
      (lead_rule text (pairs (tokens k.Star) (Rests (function_context true true))) n k.Function (λ _ _. true) (both (token text k.Star) (read.function_rest text values items is_named (function_context true true) n)) refl
      (lead_rule text (Rests (function_context true true)) n k.Star (λ _ _. true) (read.function_rest text values items is_named (function_context true true) n) refl (rest_rule (function_context true true)))) both_line))
      (λ p. tokens_Function written (Some p.0) p.1.0 (Some p.1.1.0) p.1.1.1.0 p.1.1.1.1.0 p.1.1.1.1.1) (λ p. levels_Function (Some p.0) p.1.0 (Some p.1.1.0) p.1.1.1.0 p.1.1.1.1.0 p.1.1.1.1.1 ∙ four (depth p.1.1.1)) (λ x t h. refl)

  -- ---- what each shows

  abbrev async_words : ℕ → Bool
  async_words i = is_async text (behind text i)

  abbrev stars : ℕ → Bool
  stars i = is_star (second text i).kind

  abbrev late_stars : ℕ → Bool
  late_stars i = is_star (third text i).kind

  word_seen : (i : ℕ) (t : Token) (ts : List Token) (j : ℕ) → t.kind ≡ k.Function → SpelledBetween text i (t ∷ ts) j → (async_words i ≡ false) × (second text i ≡ behind text t.end)
  word_seen i t ts j e h =
      let here = sees_kind text i t ts j k.Function h e refl in
      (ap (is_async text) here ∙ no_word text (codes "async") t k.Function e refl, ap (λ (u : Token). behind text u.end) here)

  plain_seen : (x : Function) (i j : ℕ) → IsPlain x → SpelledBetween text i (tokens_of_function written x) j → (async_words i ≡ false) × (stars i ≡ false)
  plain_seen x i j good h =
      let p = good.0 in
      let spelled = subst (λ ts. SpelledBetween text i ts j) (ap (tokens_of_function written) good.1 ∙ tokens_Function written None p.0 None p.1.0 p.1.1.0 p.1.1.1) h in
      let w = word_seen i p.0 _ j good.2.0 spelled in
      (w.0, ap (λ (u : Token). is_star u.kind) w.1 ∙ rest_no_star (function_context false false) p.1 p.0.end j good.2.1 spelled.2)

  generator_seen : (x : Function) (i j : ℕ) → IsGenerator x → SpelledBetween text i (tokens_of_function written x) j → (async_words i ≡ false) × (stars i ≡ true)
  generator_seen x i j good h =
      let p = good.0 in
      let spelled = subst (λ ts. SpelledBetween text i ts j) (ap (tokens_of_function written) good.1 ∙ tokens_Function written None p.0 (Some p.1.0) p.1.1.0 p.1.1.1.0 p.1.1.1.1) h in
      let w = word_seen i p.0 (p.1.0 ∷ (Rests (function_context false true)).yields p.1.1) j good.2.0 spelled in
      (w.0, ap (λ (u : Token). is_star u.kind) (w.1 ∙ sees_kind text p.0.end p.1.0 _ j k.Star spelled.2 good.2.1.0 refl) ∙ ap is_star good.2.1.0)

  async_seen : (i : ℕ) (t u : Token) (ts : List Token) (j : ℕ) → is_async text t ≡ true → u.kind ≡ k.Function → SpelledBetween text i (t ∷ u ∷ ts) j → (async_words i ≡ true) × (third text i ≡ behind text u.end)
  async_seen i t u ts j is e h =
      let here = sees text i t (u ∷ ts) j h (async_agrees text t is) in
      let next = ap (λ (v : Token). behind text v.end) here ∙ sees_kind text t.end u ts j k.Function h.2 e refl in
      (ap (is_async text) here ∙ is, ap (λ (v : Token). behind text v.end) next)

  asynchronous_seen : (x : Function) (i j : ℕ) → IsAsync x → SpelledBetween text i (tokens_of_function written x) j → (async_words i ≡ true) × (late_stars i ≡ false)
  asynchronous_seen x i j good h =
      let p = good.0 in
      let spelled = subst (λ ts. SpelledBetween text i ts j) (ap (tokens_of_function written) good.1 ∙ tokens_Function written (Some p.0) p.1.0 None p.1.1.0 p.1.1.1.0 p.1.1.1.1) h in
      let w = async_seen i p.0 p.1.0 _ j good.2.0 good.2.1.0.0 spelled in
      (w.0, ap (λ (u : Token). is_star u.kind) w.1 ∙ rest_no_star (function_context true false) p.1.1 p.1.0.end j good.2.1.0.1 spelled.2.2)

  async_generator_seen : (x : Function) (i j : ℕ) → IsAsyncGenerator x → SpelledBetween text i (tokens_of_function written x) j → (async_words i ≡ true) × (late_stars i ≡ true)
  async_generator_seen x i j good h =
      let p = good.0 in
      let spelled = subst (λ ts. SpelledBetween text i ts j) (ap (tokens_of_function written) good.1 ∙ tokens_Function written (Some p.0) p.1.0 (Some p.1.1.0) p.1.1.1.0 p.1.1.1.1.0 p.1.1.1.1.1) h in
      let w = async_seen i p.0 p.1.0 (p.1.1.0 ∷ (Rests (function_context true true)).yields p.1.1.1) j good.2.0 good.2.1.0.0 spelled in
      (w.0, ap (λ (u : Token). is_star u.kind) (w.1 ∙ sees_kind text p.1.0.end p.1.1.0 _ j k.Star spelled.2.2 good.2.1.0.1.0 refl) ∙ ap is_star good.2.1.0.1.0)

  abbrev IsAny : Function → Type 0
  IsAny x = (IsAsyncGenerator x ⊎ IsAsync x) ⊎ (IsGenerator x ⊎ IsPlain x)

  first_seen : (x : Function) (i j : ℕ) → IsAsyncGenerator x ⊎ IsAsync x → SpelledBetween text i (tokens_of_function written x) j → async_words i ≡ true
  first_seen x i j (inl good) h = (async_generator_seen x i j good h).0
  first_seen x i j (inr good) h = (asynchronous_seen x i j good h).0

  other_seen : (x : Function) (i j : ℕ) → IsGenerator x ⊎ IsPlain x → SpelledBetween text i (tokens_of_function written x) j → async_words i ≡ false
  other_seen x i j (inl good) h = (generator_seen x i j good h).0
  other_seen x i j (inr good) h = (plain_seen x i j good h).0

  there : (x : Function) → IsAny x → IsFunction text is_named x
  there x (inl (inl h)) =
      let p = h.0 in
      let g = h.2.1.0.1.1 in
      subst (IsFunction text is_named) (sym h.1) (built text is_named (Some p.0) p.1.0 (Some p.1.1.0) p.1.1.1.0 p.1.1.1.1.0 p.1.1.1.1.1 h.2.0 h.2.1.0.0 h.2.1.1 (ap is_star h.2.1.0.1.0) g.0 g.1.0 g.1.1)
  there x (inl (inr h)) =
      let p = h.0 in
      let g = h.2.1.0.1 in
      subst (IsFunction text is_named) (sym h.1) (built text is_named (Some p.0) p.1.0 None p.1.1.0 p.1.1.1.0 p.1.1.1.1 h.2.0 h.2.1.0.0 h.2.1.1 refl g.0 g.1.0 g.1.1)
  there x (inr (inl h)) =
      let p = h.0 in
      let g = h.2.1.1 in
      subst (IsFunction text is_named) (sym h.1) (built text is_named None p.0 (Some p.1.0) p.1.1.0 p.1.1.1.0 p.1.1.1.1 refl h.2.0 refl (ap is_star h.2.1.0) g.0 g.1.0 g.1.1)
  there x (inr (inr h)) =
      let p = h.0 in
      let g = h.2.1 in
      subst (IsFunction text is_named) (sym h.1) (built text is_named None p.0 None p.1.0 p.1.1.0 p.1.1.1 refl h.2.0 refl refl g.0 g.1.0 g.1.1)

  sorted : (async_word : Option Token) (word : Token) (star name : Option Token) (ps : Bracketed) (body : Block) → if_there (is_async text) async_word ≡ true → word.kind ≡ k.Function → on_line_behind async_word (word ∷ []) ≡ true → kind_if_there is_star star ≡ true
      → Own_name is_named name → IsBracketed text f.Parameters (of_function async_word star) ps → IsBlock text (of_function async_word star) body
      → IsAny (roll-Function (record { async_word = async_word; word = word; star = star; name = name; parameters = ps; body = body }))
  sorted None word None name ps body h1 h2 h3 h4 own h5 h6 = inr (inr ((word, (name, (ps, body))), refl, (h2, (own, (h5, h6)))))
  sorted None word (Some s) name ps body h1 h2 h3 h4 own h5 h6 = inr (inl ((word, (s, (name, (ps, body)))), refl, (h2, (star_is s.kind h4, (own, (h5, h6))))))
  sorted (Some a) word None name ps body h1 h2 h3 h4 own h5 h6 = inl (inr ((a, (word, (name, (ps, body)))), refl, (h1, ((h2, (own, (h5, h6))), h3))))
  sorted (Some a) word (Some s) name ps body h1 h2 h3 h4 own h5 h6 = inl (inl ((a, (word, (s, (name, (ps, body))))), refl, (h1, ((h2, (star_is s.kind h4, (own, (h5, h6)))), h3))))

  abbrev async_reader : Reader (Node Function)
  async_reader = fork late_stars (read.async_generator_function text values items is_named n) (read.async_function text values items is_named n)

  abbrev other_reader : Reader (Node Function)
  other_reader = fork stars (read.generator_function text values items is_named n) (read.plain_function text values items is_named n)

  any_rule : Rule text (of_functions IsAny) n n (λ _ _. true) (read.function text values items is_named n)
  unfolding read.function
  any_rule =
      fork_rule text (of_functions IsAny) (λ x. IsAsyncGenerator x ⊎ IsAsync x) (λ x. IsGenerator x ⊎ IsPlain x) n n (λ _ _. true) async_words async_reader other_reader
      (fork_rule text (of_functions IsAny) IsAsyncGenerator IsAsync n n (λ _ _. true) late_stars (read.async_generator_function text values items is_named n) (read.async_function text values items is_named n) async_generator_rule async_rule
      (λ i x j s low stop. (async_generator_seen x.tree i j s.good s.spelled).1) (λ i x j s low stop. (asynchronous_seen x.tree i j s.good s.spelled).1))
      (fork_rule text (of_functions IsAny) IsGenerator IsPlain n n (λ _ _. true) stars (read.generator_function text values items is_named n) (read.plain_function text values items is_named n) generator_rule plain_rule_of
      (λ i x j s low stop. (generator_seen x.tree i j s.good s.spelled).1) (λ i x j s low stop. (plain_seen x.tree i j s.good s.spelled).1))
      (λ i x j s low stop. first_seen x.tree i j s.good s.spelled) (λ i x j s low stop. other_seen x.tree i j s.good s.spelled)

sorted_of : (text : Text) (values : Context → ℕ → Reader (Node Expression)) (items : Context → ℕ → Reader (Node (List Statement))) (is_named : Bool) (n : ℕ) (r : ReadsWithin text n values) (b : ReadsBodies text n items) (x : Function) → IsFunction text is_named x → IsAny text values items is_named n r b x
sorted_of text values items is_named n r b x (nameless_function async_word word star ps body h1 h2 h3 h4 h5 h6) = sorted text values items false n r b async_word word star None ps body h1 h2 h3 h4 tt h5 h6
sorted_of text values items is_named n r b x (named_function async_word word star name ps body h1 h2 h3 h4 own h5 h6) = sorted text values items is_named n r b async_word word star (Some name) ps body h1 h2 h3 h4 own h5 h6

pub function_rule : FunctionRule
function_rule text values items is_named n r b =
    same_rule text (record { yields = tokens_of_function written; levels_of = depth_of_function; Good = IsAny text values items is_named n r b }) (functions text is_named) n n (λ _ _. true) (λ _ _. true) (read.function text values items is_named n)
    (any_rule text values items is_named n r b) refl refl (there text values items is_named n r b) (sorted_of text values items is_named n r b) (λ x t good h. refl)
