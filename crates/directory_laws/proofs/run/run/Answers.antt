use Rattle.std.proofs.Common.{◌≡◌, suc, Ok, ◌+◌, ◌<◌, map, length, get_or, set, sym, refl, ap, ◌∙◌, subst, arith}
use Rattle.std.proofs.lemmas.List.{map-set, get_or-map, length-map}
use Rattle.vocabulary.proofs.Runs.{first_answered, after_first, one_more, one_more_left, all_answered, left_by_all, kept_by_all}
use Rattle.directory.specs.State.{bare}
use Rattle.directory.specs.View.{state_of}
use Rattle.directory_laws.specs.declared.call.DirectoryCall.TheVariants.{AddUser}
use Rattle.directory_laws.specs.declared.turn.Turn.{Turn}
use Rattle.directory_laws.specs.Turns.{as_told, told, with_answer, after_turn}
use Rattle.directory_laws.specs.Soundness.{Sound}
use Rattle.directory_laws.proofs.Continued.{continues}
use Rattle.directory_laws.proofs.Losses.{ends_by_loss}
use Rattle.directory_laws.proofs.Sound.{bare_sound, step_sound}
use Rattle.directory_laws.proofs.run.run.Goals as goal

pub loop-turn-init : goal.loop-turn-init
unfolding first_answered after_first
loop-turn-init c = (refl, c.new-directory.ensures)

-- what indexing past the end would give
nowhere : Turn
nowhere = record { call = AddUser 0; answer = Ok (record { bits = 0; of = record {} }) }

pub loop-turn-preserved : goal.loop-turn-preserved
unfolding nowhere
loop-turn-preserved c =
    let ts = map told c.args.turns.now in
    let xs = c.loop-turn.turns in
    let k = c.loop-turn.turn-index in
    let inv = c.loop-turn.invariant in
    let made = c.apply-turn.ensures in
    let turn : Turn = record { call = (get_or xs k nowhere).call; answer = c.apply-turn.result } in
    let inside : k < length xs = omega arith in
    let first : k < length ts = simp length-map (omega arith) in
    let next : suc k ≡ k + 1 = omega arith in
    let this : told (get_or xs k nowhere) ≡ get_or (map told xs) k (told nowhere) = sym (get_or-map told xs k nowhere (told nowhere) inside) in
    let answer : told turn ≡ with_answer (state_of c.loop-turn.directory) (get_or (map told xs) k (told nowhere)) =
    (λ i. as_told (get_or xs k nowhere).call (made.answer i) (made.ended i)) ∙ ap (with_answer (state_of c.loop-turn.directory)) this
    in (
      map-set told xs k turn
          ∙ ap (set (map told xs) k) answer
          ∙ (λ i. set (inv.0 i) k (with_answer (inv.1 i) (get_or (inv.0 i) k (told nowhere))))
          ∙ one_more with_answer after_turn k bare ts (told nowhere) first
          ∙ ap (λ n. first_answered with_answer after_turn n bare ts) next,
      made.left
          ∙ ap (after_turn (state_of c.loop-turn.directory)) this
          ∙ (λ i. after_turn (inv.1 i) (get_or (inv.0 i) k (told nowhere)))
          ∙ one_more_left with_answer after_turn k bare ts (told nowhere) first
          ∙ ap (λ n. after_first after_turn n bare ts) next,
    )

pub returns : goal.returns
returns c =
    let ts = map told c.args.turns.now in
    let d = state_of c.loop-turn.directory in
    let inv = c.loop-turn.invariant in
    let end : c.loop-turn.turn-index ≡ length ts = simp length-map (omega arith) in
    let left = inv.1 ∙ ap (λ n. after_first after_turn n bare ts) end ∙ left_by_all with_answer after_turn bare ts in
    let sound : Sound d = subst Sound (sym left) (kept_by_all after_turn Sound (λ e t. step_sound e t.call) bare ts bare_sound) in
    record {
      answers = inv.0 ∙ ap (λ n. first_answered with_answer after_turn n bare ts) end ∙ all_answered with_answer after_turn bare ts;
      left = left;
      sound = sound;
      continues = continues d;
      ends = λ call s takes. ends_by_loss d call s sound takes;
    }
