-- `try` is read exactly.
use Rattle.std.proofs.Common.{◌≡◌, ◌⊎◌, inl, inr, ℕ, suc, ◌+◌, ◌<◌, max, Bool, true, false, not, ◌||◌, List, ◌∷◌, refl, ap, sym, ◌∙◌, subst, arith}
use Rattle.esb_token.specs.declared.kind.Kind.{Kind}
use Rattle.esb_token.specs.declared.kind.Kind.TheVariants as k
use Rattle.esb_token.specs.declared.token.Token.{Token}
use Rattle.esb_token.specs.declared.goal.Goal.TheVariants as goal
use Rattle.esb_token.specs.Tokens.{SpelledBetween}
use Rattle.esb_tree.specs.declared.classes.ClassElement.TheOpen.{Handler-F, Finalizer-F}
use Rattle.esb_tree.specs.declared.expressions.Expression.{Expression}
use Rattle.esb_tree.specs.declared.statements.Block.{Block}
use Rattle.esb_tree.specs.declared.statements.Finalizer.{Finalizer, out-Finalizer, out-roll-Finalizer}
use Rattle.esb_tree.specs.declared.statements.Finalizer.TheVariants as fi
use Rattle.esb_tree.specs.declared.statements.Handler.{Handler, out-Handler, out-roll-Handler}
use Rattle.esb_tree.specs.declared.statements.Handler.TheVariants as ha
use Rattle.esb_tree.specs.declared.statements.Statement.{Statement}
use Rattle.esb_tree.specs.declared.statements.Statement.TheVariants as s
use Rattle.esb_tree.specs.Levels.{depth_of_expression, depth_of_block, depth_of_handler, depth_of_finalizer, depth_of_statement}
use Rattle.esb_tree.specs.Trees.{written}
use Rattle.esb_tree.specs.Yields.{tokens_of_block, tokens_of_handler, tokens_of_finalizer, tokens_of_statement}
use Rattle.esb_tree.proofs.TokenLines.{tokens_NoHandler, tokens_Catch, tokens_CatchParameter, tokens_NoFinalizer, tokens_Finally, tokens_Try}
use Rattle.esb_tree.proofs.LevelLines.{levels_NoHandler, levels_Catch, levels_CatchParameter, levels_NoFinalizer, levels_Finally, levels_Try}
use Rattle.esb_grammar.specs.declared.context.Context.{Context}
use Rattle.esb_grammar.specs.Grammar.{IsBlock, IsTarget, IsCatch, catch_alone, catch_parameter, IsFinalizer, no_finalizer, finally, IsStatement, try_catch, try_finally}
use Rattle.esb_reader.specs.declared.node.Node.{Node}
use Rattle.esb_reader.specs.Kinds.{agrees}
use Rattle.esb_reader.specs.Places.{Text}
use Rattle.esb_reader.specs.Reader.{Reader, choose}
use Rattle.esb_reader.specs.Parts.{behind, both, token, above, such, empty}
use Rattle.esb_reader.specs.Stands.{Syntax, Rule, Made, pairs, tokens, which}
use Rattle.esb_reading_laws.proofs.Composed.{both_rule, above_rule, such_rule, choice_rule, empty_rule, same_rule}
use Rattle.esb_statement_laws.specs.Sequels.{by_place, RuleAt}
use Rattle.esb_statement_laws.specs.Marks.{is_catch, is_finally, is_parenthesis, never_follows}
use Rattle.esb_statement_laws.specs.Handed.{Handed, expressions, statements}
use Rattle.esb_statement_laws.specs.Statements as plain
use Rattle.esb_statement_laws.specs.Compounds as read
use Rattle.esb_statement_laws.specs.Compounds.{make_catch, make_catch_parameter, make_finally, make_try, catch_layer, finally_layer, has_catch, has_finally, is_handled}
use Rattle.esb_statement_laws.proofs.Followed.{rule_at, sorted_rule, leading, between, sees, lower_rule}
use Rattle.esb_statement_laws.proofs.Small.{or_first, or_second, of_not}

or_of : (a b : Bool) → (a || b) ≡ true → (a ≡ true) ⊎ (b ≡ true)
or_of true b h = inl refl
or_of false b h = inr h

catch_never : (kind : Kind) → not (never_follows kind) ≡ true → is_catch kind ≡ false
catch_never k.Catch h = cc
catch_never _ h = refl

finally_never : (kind : Kind) → not (never_follows kind) ≡ true → is_finally kind ≡ false
finally_never k.Finally h = cc
finally_never _ h = refl

catch_of_NoHandler : has_catch ha.NoHandler ≡ false
unfolding has_catch
catch_of_NoHandler = ap catch_layer (ap out-Handler (sym ha.rolls-NoHandler) ∙ out-roll-Handler (Handler-F.NoHandler))

catch_of_Catch : (word : Token) (block : Block) → has_catch (ha.Catch word block) ≡ true
unfolding has_catch
catch_of_Catch word block = ap catch_layer (ap out-Handler (sym (ha.rolls-Catch word block)) ∙ out-roll-Handler (Handler-F.Catch word block))

catch_of_CatchParameter : (word begin : Token) (x : Expression) (ending : Token) (block : Block) → has_catch (ha.CatchParameter word begin x ending block) ≡ true
unfolding has_catch
catch_of_CatchParameter word begin x ending block = ap catch_layer (ap out-Handler (sym (ha.rolls-CatchParameter word begin x ending block)) ∙ out-roll-Handler (Handler-F.CatchParameter word begin x ending block))

finally_of_NoFinalizer : has_finally fi.NoFinalizer ≡ false
unfolding has_finally
finally_of_NoFinalizer = ap finally_layer (ap out-Finalizer (sym fi.rolls-NoFinalizer) ∙ out-roll-Finalizer (Finalizer-F.NoFinalizer))

finally_of_Finally : (word : Token) (block : Block) → has_finally (fi.Finally word block) ≡ true
unfolding has_finally
finally_of_Finally word block = ap finally_layer (ap out-Finalizer (sym (fi.rolls-Finally word block)) ∙ out-roll-Finalizer (Finalizer-F.Finally word block))

module _ (text : Text) (c : Context) (n : ℕ) (r : Handed) (targets : Rule text (expressions (IsTarget text c)) n n (λ _ _. true) (r.target c))
    (blocks_rule : Rule text (record { yields = tokens_of_block written; levels_of = depth_of_block; Good = IsBlock text c }) n n (λ _ _. true) (plain.block text c n r))
    (brace_opens : (x : Block) → IsBlock text c x → (t : Token) × (ts : List Token) × (tokens_of_block written x ≡ t ∷ ts) × (t.kind ≡ k.LeftBrace)) where
  abbrev Blocks : Syntax Block
  Blocks = record { yields = tokens_of_block written; levels_of = depth_of_block; Good = IsBlock text c }

  abbrev block : Reader (Node Block)
  block = plain.block text c n r

  smaller : (m : ℕ) → m < n → m < suc n
  smaller m h = omega arith

  abbrev no_next : Token → Bool
  no_next t = not (never_follows t.kind)

  -- ---- Catch

  abbrev handlers : (Handler → Type 0) → Syntax Handler
  handlers Good = record { yields = tokens_of_handler written; levels_of = depth_of_handler; Good = Good }

  abbrev AloneParts : Syntax (Token × Block)
  AloneParts = pairs (tokens k.Catch) Blocks

  abbrev ParameterParts : Syntax (Token × (Token × (Expression × (Token × Block))))
  ParameterParts = pairs (tokens k.Catch) (pairs (tokens k.LeftParenthesis) (pairs (expressions (IsTarget text c)) (pairs (tokens k.RightParenthesis) Blocks)))

  abbrev IsAlone : Handler → Type 0
  IsAlone = Made AloneParts make_catch

  abbrev IsWithParameter : Handler → Type 0
  IsWithParameter = Made ParameterParts make_catch_parameter

  alone_levels : (b : ℕ) → b + 1 ≡ max 0 b + 1
  alone_levels b = omega arith

  parameter_levels : (x b : ℕ) → max x b + 1 ≡ max 0 (max 0 (max x (max 0 b))) + 1
  parameter_levels x b = omega arith

  alone_rule : Rule text (handlers IsAlone) n n (λ _ _. true) (read.catch_alone text c n r)
  unfolding read.catch_alone
  alone_rule =
      lower_rule text (handlers IsAlone) n (suc n) n (λ _ _. true) (read.catch_alone text c n r)
      (above_rule text AloneParts (tokens_of_handler written) depth_of_handler n n (λ _ _. true) (λ _ _. true) make_catch (both (token text k.Catch) block)
      (leading text Blocks n n k.Catch (λ _ _. true) block refl blocks_rule)
      (omega arith) (λ p. tokens_Catch written p.0 p.1) (λ p. levels_Catch p.0 p.1 ∙ alone_levels (depth_of_block p.1)) (λ p t h. refl)) smaller

  parameter_rule : Rule text (handlers IsWithParameter) n n (λ _ _. true) (read.catch_parameter text c n r)
  unfolding read.catch_parameter
  parameter_rule =
      lower_rule text (handlers IsWithParameter) n (suc n) n (λ _ _. true) (read.catch_parameter text c n r)
      (above_rule text ParameterParts (tokens_of_handler written) depth_of_handler n n (λ _ _. true) (λ _ _. true) make_catch_parameter (both (token text k.Catch) (both (token text k.LeftParenthesis) (both (r.target c) (both (token text k.RightParenthesis) block))))
      (leading text (pairs (tokens k.LeftParenthesis) (pairs (expressions (IsTarget text c)) (pairs (tokens k.RightParenthesis) Blocks))) n n k.Catch (λ _ _. true) (both (token text k.LeftParenthesis) (both (r.target c) (both (token text k.RightParenthesis) block))) refl
      (leading text (pairs (expressions (IsTarget text c)) (pairs (tokens k.RightParenthesis) Blocks)) n n k.LeftParenthesis (λ _ _. true) (both (r.target c) (both (token text k.RightParenthesis) block)) refl
      (between text (expressions (IsTarget text c)) Blocks n n k.RightParenthesis (λ _ _. true) (λ _ _. true) (r.target c) block refl targets blocks_rule (λ x t good e. refl))))
      (omega arith) (λ p. tokens_CatchParameter written p.0 p.1.0 p.1.1.0 p.1.1.1.0 p.1.1.1.1) (λ p. levels_CatchParameter p.0 p.1.0 p.1.1.0 p.1.1.1.0 p.1.1.1.1 ∙ parameter_levels (depth_of_expression p.1.1.0) (depth_of_block p.1.1.1.1)) (λ p t h. refl)) smaller

  abbrev parenthesis_at : ℕ → Bool
  parenthesis_at i = is_parenthesis (behind text (behind text i).end).kind

  abbrev Catching : Bool → Handler → Type 0
  Catching true x = IsWithParameter x
  Catching false x = IsAlone x

  spelled_alone : (x : Handler) (i j : ℕ) (good : IsAlone x) → SpelledBetween text i (tokens_of_handler written x) j → SpelledBetween text i (AloneParts.yields good.0) j
  spelled_alone x i j good h = subst (λ ts. SpelledBetween text i ts j) (ap (tokens_of_handler written) good.1 ∙ tokens_Catch written good.0.0 good.0.1) h

  spelled_parameter : (x : Handler) (i j : ℕ) (good : IsWithParameter x) → SpelledBetween text i (tokens_of_handler written x) j → SpelledBetween text i (ParameterParts.yields good.0) j
  spelled_parameter x i j good h = subst (λ ts. SpelledBetween text i ts j) (ap (tokens_of_handler written) good.1 ∙ tokens_CatchParameter written good.0.0 good.0.1.0 good.0.1.1.0 good.0.1.1.1.0 good.0.1.1.1.1) h

  alone_seen : (x : Handler) (i j : ℕ) (good : IsAlone x) → SpelledBetween text i (tokens_of_handler written x) j → behind text i ≡ good.0.0
  alone_seen x i j good h = sees text i good.0.0 (Blocks.yields good.0.1) j (spelled_alone x i j good h) (ap (agrees goal.Div) good.2.0)

  parameter_seen : (x : Handler) (i j : ℕ) (good : IsWithParameter x) → SpelledBetween text i (tokens_of_handler written x) j → behind text i ≡ good.0.0
  parameter_seen x i j good h = sees text i good.0.0 ((pairs (tokens k.LeftParenthesis) (pairs (expressions (IsTarget text c)) (pairs (tokens k.RightParenthesis) Blocks))).yields good.0.1) j (spelled_parameter x i j good h) (ap (agrees goal.Div) good.2.0)

  brace_seen : (x : Block) (i j : ℕ) → IsBlock text c x → SpelledBetween text i (tokens_of_block written x) j → (behind text i).kind ≡ k.LeftBrace
  brace_seen x i j good h =
      let o = brace_opens x good in
      ap (λ (u : Token). u.kind) (sees text i o.0 o.1 j (subst (λ ts. SpelledBetween text i ts j) o.2 h) (ap (agrees goal.Div) o.3)) ∙ o.3

  which_catch : (b : Bool) (x : Handler) (i j : ℕ) → Catching b x → SpelledBetween text i (tokens_of_handler written x) j → depth_of_handler x < n → true ≡ true → parenthesis_at i ≡ b
  which_catch true x i j good h low stop =
      let spelled = (spelled_parameter x i j good h).2 in
      ap (λ (u : Token). is_parenthesis (behind text u.end).kind) (parameter_seen x i j good h)
      ∙ ap (λ (u : Token). is_parenthesis u.kind) (sees text good.0.0.end good.0.1.0 ((pairs (expressions (IsTarget text c)) (pairs (tokens k.RightParenthesis) Blocks)).yields good.0.1.1) j spelled (ap (agrees goal.Div) good.2.1.0)) ∙ ap is_parenthesis good.2.1.0
  which_catch false x i j good h low stop =
      ap (λ (u : Token). is_parenthesis (behind text u.end).kind) (alone_seen x i j good h) ∙ ap is_parenthesis (brace_seen good.0.1 good.0.0.end j good.2.1 (spelled_alone x i j good h).2)

  catch_at : (b : Bool) (i : ℕ) → parenthesis_at i ≡ b → RuleAt text (handlers (Catching b)) n n (λ _ _. true) (choose b (read.catch_parameter text c n r) (read.catch_alone text c n r)) i
  catch_at true i seen = rule_at text (handlers IsWithParameter) n n (λ _ _. true) (read.catch_parameter text c n r) i parameter_rule
  catch_at false i seen = rule_at text (handlers IsAlone) n n (λ _ _. true) (read.catch_alone text c n r) i alone_rule

  abbrev IsAnyCatch : Handler → Type 0
  IsAnyCatch x = (b : Bool) × Catching b x

  abbrev caught : Reader (Node Handler)
  caught = by_place parenthesis_at (read.catch_parameter text c n r) (read.catch_alone text c n r)

  caught_rule : Rule text (handlers IsAnyCatch) n n (λ _ _. true) caught
  caught_rule = sorted_rule text (handlers IsAlone) Catching n n (λ _ _. true) parenthesis_at (λ b. choose b (read.catch_parameter text c n r) (read.catch_alone text c n r)) catch_at which_catch

  catch_seen : (x : Handler) (i j : ℕ) → IsAnyCatch x → SpelledBetween text i (tokens_of_handler written x) j → is_catch (behind text i).kind ≡ true
  catch_seen x i j (true, good) h = ap (λ (u : Token). is_catch u.kind) (parameter_seen x i j good h) ∙ ap is_catch good.2.0
  catch_seen x i j (false, good) h = ap (λ (u : Token). is_catch u.kind) (alone_seen x i j good h) ∙ ap is_catch good.2.0

  abbrev IsMaybeCatch : Handler → Type 0
  IsMaybeCatch x = IsAnyCatch x ⊎ (x ≡ ha.NoHandler)

  no_handler_here : (x : Handler) (i j : ℕ) → x ≡ ha.NoHandler → SpelledBetween text i (tokens_of_handler written x) j → i ≡ j
  no_handler_here x i j e h = subst (λ ts. SpelledBetween text i ts j) (ap (tokens_of_handler written) e ∙ tokens_NoHandler written) h

  abbrev handler_stops : Handler → Token → Bool
  handler_stops x t = not (is_catch t.kind)

  handler_rule : Rule text (handlers IsMaybeCatch) n n handler_stops (read.handler text c n r)
  unfolding read.handler
  handler_rule =
      choice_rule text (handlers IsMaybeCatch) IsAnyCatch (λ x. x ≡ ha.NoHandler) n n handler_stops (λ t. is_catch t.kind) caught (empty ha.NoHandler)
      (same_rule text (handlers IsAnyCatch) (handlers IsAnyCatch) n n (λ _ _. true) handler_stops caught caught_rule refl refl (λ x h. h) (λ x h. h) (λ x t good h. refl))
      (empty_rule text (tokens_of_handler written) depth_of_handler n n handler_stops ha.NoHandler (tokens_NoHandler written) levels_NoHandler)
      catch_seen (λ x i j e h stop. ap (λ m. is_catch (behind text m).kind) (no_handler_here x i j e h) ∙ of_not _ stop)

  -- ---- Finally

  abbrev finalizers : (Finalizer → Type 0) → Syntax Finalizer
  finalizers Good = record { yields = tokens_of_finalizer written; levels_of = depth_of_finalizer; Good = Good }

  abbrev IsFinally : Finalizer → Type 0
  IsFinally = Made (pairs (tokens k.Finally) Blocks) make_finally

  abbrev IsMaybeFinally : Finalizer → Type 0
  IsMaybeFinally x = IsFinally x ⊎ (x ≡ fi.NoFinalizer)

  abbrev finally_reader : Reader (Node Finalizer)
  finally_reader = above n make_finally (both (token text k.Finally) block)

  abbrev finalizer_stops : Finalizer → Token → Bool
  finalizer_stops x t = not (is_finally t.kind)

  finally_rule : Rule text (finalizers IsFinally) n n finalizer_stops finally_reader
  finally_rule =
      lower_rule text (finalizers IsFinally) n (suc n) n finalizer_stops finally_reader
      (above_rule text (pairs (tokens k.Finally) Blocks) (tokens_of_finalizer written) depth_of_finalizer n n (λ _ _. true) finalizer_stops make_finally (both (token text k.Finally) block)
      (leading text Blocks n n k.Finally (λ _ _. true) block refl blocks_rule)
      (omega arith) (λ p. tokens_Finally written p.0 p.1) (λ p. levels_Finally p.0 p.1 ∙ alone_levels (depth_of_block p.1)) (λ p t h. refl)) smaller

  spelled_finally : (x : Finalizer) (i j : ℕ) (good : IsFinally x) → SpelledBetween text i (tokens_of_finalizer written x) j → SpelledBetween text i (good.0.0 ∷ tokens_of_block written good.0.1) j
  spelled_finally x i j good h = subst (λ ts. SpelledBetween text i ts j) (ap (tokens_of_finalizer written) good.1 ∙ tokens_Finally written good.0.0 good.0.1) h

  finally_seen : (x : Finalizer) (i j : ℕ) (good : IsFinally x) → SpelledBetween text i (tokens_of_finalizer written x) j → (behind text i).kind ≡ k.Finally
  finally_seen x i j good h = ap (λ (u : Token). u.kind) (sees text i good.0.0 _ j (spelled_finally x i j good h) (ap (agrees goal.Div) good.2.0)) ∙ good.2.0

  no_finalizer_here : (x : Finalizer) (i j : ℕ) → x ≡ fi.NoFinalizer → SpelledBetween text i (tokens_of_finalizer written x) j → i ≡ j
  no_finalizer_here x i j e h = subst (λ ts. SpelledBetween text i ts j) (ap (tokens_of_finalizer written) e ∙ tokens_NoFinalizer written) h

  finalizer_rule : Rule text (finalizers IsMaybeFinally) n n finalizer_stops (read.finalizer text c n r)
  unfolding read.finalizer
  finalizer_rule =
      choice_rule text (finalizers IsMaybeFinally) IsFinally (λ x. x ≡ fi.NoFinalizer) n n finalizer_stops (λ t. is_finally t.kind) finally_reader (empty fi.NoFinalizer) finally_rule
      (empty_rule text (tokens_of_finalizer written) depth_of_finalizer n n finalizer_stops fi.NoFinalizer (tokens_NoFinalizer written) levels_NoFinalizer)
      (λ x i j good h. ap is_finally (finally_seen x i j good h)) (λ x i j e h stop. ap (λ m. is_finally (behind text m).kind) (no_finalizer_here x i j e h) ∙ of_not _ stop)

  -- ---- TryStatement

  abbrev Behind : Syntax (Handler × Finalizer)
  Behind = pairs (handlers IsMaybeCatch) (finalizers IsMaybeFinally)

  -- no `catch` is seen where a Finally, or none, stands before a token that follows a statement
  finalizer_no_catch : (y : Finalizer) (m j : ℕ) → IsMaybeFinally y → SpelledBetween text m (tokens_of_finalizer written y) j → no_next (behind text j) ≡ true → not (is_catch (behind text m).kind) ≡ true
  finalizer_no_catch y m j (inl good) h stop = ap (λ kind. not (is_catch kind)) (finally_seen y m j good h)
  finalizer_no_catch y m j (inr e) h stop = ap (λ i. not (is_catch (behind text i).kind)) (no_finalizer_here y m j e h) ∙ ap not (catch_never _ stop)

  behind_rule : Rule text Behind n n (λ _. no_next) (both (read.handler text c n r) (read.finalizer text c n r))
  behind_rule =
      both_rule text (handlers IsMaybeCatch) (finalizers IsMaybeFinally) n n handler_stops finalizer_stops (λ _. no_next) (read.handler text c n r) (read.finalizer text c n r) handler_rule finalizer_rule
      (λ a b t h. ap not (finally_never t.kind h)) (λ a b m j ga gb h stop. finalizer_no_catch b m j gb h stop)

  abbrev Handled : Syntax (Block × (Handler × Finalizer))
  Handled = which (pairs Blocks Behind) (λ p. (pairs Blocks Behind).Good p × (is_handled p ≡ true))

  abbrev pub TryParts : Syntax (Token × (Block × (Handler × Finalizer)))
  TryParts = pairs (tokens k.Try) Handled

  abbrev after_block : Reader (Node (Block × (Handler × Finalizer)))
  after_block = both block (both (read.handler text c n r) (read.finalizer text c n r))

  try_levels : (m : ℕ) → m + 1 ≡ max 0 m + 1
  try_levels m = omega arith

  pub try_rule : Rule text (statements (Made TryParts make_try)) n (suc n) (λ _. no_next) (read.try_statement text c n r)
  unfolding read.try_statement
  try_rule =
      above_rule text TryParts (tokens_of_statement written) depth_of_statement n n (λ _. no_next) (λ _. no_next) make_try (both (token text k.Try) (such after_block is_handled))
      (leading text Handled n n k.Try (λ _. no_next) (such after_block is_handled) refl
      (such_rule text (pairs Blocks Behind) n n (λ _. no_next) is_handled after_block
      (both_rule text Blocks Behind n n (λ _ _. true) (λ _. no_next) (λ _. no_next) block (both (read.handler text c n r) (read.finalizer text c n r)) blocks_rule behind_rule (λ a b t h. h) (λ a b m j ga gb h stop. refl))))
      (omega arith) (λ p. tokens_Try written p.0 p.1.0 p.1.1.0 p.1.1.1)
      (λ p. levels_Try p.0 p.1.0 p.1.1.0 p.1.1.1 ∙ try_levels (max (depth_of_block p.1.0) (max (depth_of_handler p.1.1.0) (depth_of_finalizer p.1.1.1)))) (λ p t h. h)

  -- ---- the family

  catch_of : (x : Handler) → IsAnyCatch x → IsCatch text c x
  catch_of x (true, h) = subst (IsCatch text c) (sym h.1) (catch_parameter h.2.0 h.2.1.0 h.2.1.1.0 h.2.1.1.1.0 h.2.1.1.1.1)
  catch_of x (false, h) = subst (IsCatch text c) (sym h.1) (catch_alone h.2.0 h.2.1)

  of_catch : (x : Handler) → IsCatch text c x → IsAnyCatch x × (has_catch x ≡ true)
  of_catch x (catch_alone {word = w} {block = b} h1 h2) = ((false, ((w, b), refl, (h1, h2))), catch_of_Catch w b)
  of_catch x (catch_parameter {word = w} {begin = p} {x = y} {ending = e} {block = b} h1 h2 h3 h4 h5) = ((true, ((w, (p, (y, (e, b)))), refl, (h1, (h2, (h3, (h4, h5)))))), catch_of_CatchParameter w p y e b)

  finalizer_of : (x : Finalizer) → IsMaybeFinally x → IsFinalizer text c x
  finalizer_of x (inl h) = subst (IsFinalizer text c) (sym h.1) (finally h.2.0 h.2.1)
  finalizer_of x (inr e) = subst (IsFinalizer text c) (sym e) no_finalizer

  of_finalizer : (x : Finalizer) → IsFinalizer text c x → IsMaybeFinally x
  of_finalizer x (finally {word = w} {block = b} h1 h2) = inl ((w, b), refl, (h1, h2))
  of_finalizer x no_finalizer = inr refl

  no_finally : (x : Finalizer) → x ≡ fi.NoFinalizer → has_finally x ≡ false
  no_finally x e = ap has_finally e ∙ finally_of_NoFinalizer

  unhandled : (x : Handler) (y : Finalizer) → x ≡ ha.NoHandler → y ≡ fi.NoFinalizer → (has_catch x || has_finally y) ≡ true → ⊥
  unhandled x y a b h = let bad : false ≡ true = sym (ap (λ z. has_catch z || has_finally y) a ∙ ap (λ p. p || has_finally y) catch_of_NoHandler ∙ no_finally y b) ∙ h in cc

  statement_of : (w : Token) (b : Block) (h : Handler) (f : Finalizer) → w.kind ≡ k.Try → IsBlock text c b → IsMaybeCatch h → IsMaybeFinally f → (has_catch h || has_finally f) ≡ true → IsStatement text c (s.Try w b h f)
  statement_of w b h f h1 h2 (inl good) last handled = try_catch h1 h2 (catch_of h good) (finalizer_of f last)
  statement_of w b h f h1 h2 (inr e) (inl good) handled =
      subst (λ z. IsStatement text c (s.Try w b z f)) (sym e) (subst (λ z. IsStatement text c (s.Try w b ha.NoHandler z)) (sym good.1) (try_finally h1 h2 good.2.0 good.2.1))
  statement_of w b h f h1 h2 (inr e) (inr g) handled = absurd (unhandled h f e g handled)

  pub try_of : (x : Statement) → Made TryParts make_try x → IsStatement text c x
  try_of x h = let p = h.0 in subst (IsStatement text c) (sym h.1) (statement_of p.0 p.1.0 p.1.1.0 p.1.1.1 h.2.0 h.2.1.0.0 h.2.1.0.1.0 h.2.1.0.1.1 h.2.1.1)

  pub try_catch_parts : (w : Token) (b : Block) (h : Handler) (f : Finalizer) → w.kind ≡ k.Try → IsBlock text c b → IsCatch text c h → IsFinalizer text c f → TryParts.Good (w, (b, (h, f)))
  try_catch_parts w b h f h1 h2 h3 h4 = let one = of_catch h h3 in (h1, ((h2, (inl one.0, of_finalizer f h4)), or_first _ _ one.1))

  pub try_finally_parts : (w : Token) (b : Block) (f : Token) (last : Block) → w.kind ≡ k.Try → IsBlock text c b → f.kind ≡ k.Finally → IsBlock text c last → TryParts.Good (w, (b, (ha.NoHandler, fi.Finally f last)))
  try_finally_parts w b f last h1 h2 h3 h4 = (h1, ((h2, (inr refl, inl ((f, last), refl, (h3, h4)))), or_second (has_catch ha.NoHandler) _ (finally_of_Finally f last)))
