-- What the fence is told of a put, and what stands written of it.
use Rattle.std.proofs.Common.{◌≡◌, ℕ, ◌≤◌, Bool, List, ◌++◌, Option, Result, Ok, Err, sym, ap, ◌∙◌, subst}
use Rattle.std.specs.Result.{OnOk, IfOk, IfErr}
use Rattle.kube_model.specs.declared.put.Put.{Put}
use Rattle.kube_model.specs.declared.reason.Reason.{Reason}
use Rattle.core_drive.specs.Drive.{Turned}
use Rattle.core_rules.specs.Core.{State}
use Rattle.core_rules.specs.Turn.{core_turn, after_turn}
use Rattle.core_rules.specs.declared.turn.Turn.{Turn}
use Rattle.core_rules.specs.declared.turn.Turn.TheVariants.{Wants}
use Rattle.line_run.specs.declared.halt.Halt.{Halt}
use Rattle.line_run.specs.declared.halt.Halt.TheVariants.{NoMemory}
use Rattle.line_run.specs.Text.{Halts}
use Rattle.line_run.proofs.Texts.{err_then, ok_then, upto_all, upto_first}
use Rattle.mlb_edge.specs.Written.{Grows}
use Rattle.put_fence.specs.declared.answer.Input.{Input}
use Rattle.put_fence.specs.declared.answer.Input.TheVariants as inputs
use Rattle.put_fence.specs.declared.fence.Fence.{Fence}
use Rattle.put_fence.specs.Fences.{taken}
use Rattle.controller_run.specs.Output.{reason_line}
use Rattle.fenced_run.specs.Drive.{FencedState, OfCore, Step, behind, given_in, heard, telling, turning, turning_by}
use Rattle.fenced_run.specs.Stepping.{Steps, entries_text, state_of, step_text}
use Rattle.fenced_run.specs.Stream.{given_text}

-- memory is wanting once the fence's request was written
pub telling_halts : (input : Input) (core : State) (fence : Fence) (a b : Option (List ℕ)) (k n : ℕ) → Grows a b (given_text (taken input fence))
    → Halts NoMemory (step_text (telling input (state_of core fence))) a b k n
telling_halts input core fence a b k n wrote =
    let t = taken input fence in
    upto_first a b (given_text t) (entries_text (heard core.out (given_in t.output) (state_of core t.fence)).entries) (upto_all a b (given_text t) wrote)

module _ (s t : State) (fence : Fence) (put : Put) (pending : Option Reason) (turned : core_turn s ≡ Wants put pending) (made : t ≡ after_turn s) where
  -- the turn that wants the put is what the fence is told of
  wants_is : turning (state_of s fence) ≡ behind (OfCore (Turned (Wants put pending))) (telling (inputs.Put put) (state_of t fence))
  wants_is =
      ap (λ (turn : Turn). turning_by turn (state_of (after_turn s) fence)) turned
      ∙ ap (λ (core : State). behind (OfCore (Turned (Wants put pending))) (telling (inputs.Put put) (state_of core fence))) (sym made)

  steps_so : (goes_on : Bool) (u : FencedState) → Steps goes_on u (telling (inputs.Put put) (state_of t fence)) → Steps goes_on u (turning (state_of s fence))
  steps_so goes_on u steps = subst (λ (step : Step). Steps goes_on u step) (sym wants_is) (record { state = steps.state; more = steps.more })

  pub wants_step : (result : Result Bool Halt) (u : FencedState) → IfOk result (λ goes_on. Steps goes_on u (telling (inputs.Put put) (state_of t fence)))
      → IfOk result (λ goes_on. Steps goes_on u (turning (state_of s fence)))
  wants_step (Ok goes_on) u steps = steps_so goes_on u steps
  wants_step (Err halt) u steps = tt

  text_is : reason_line put.key pending ++ step_text (telling (inputs.Put put) (state_of t fence)) ≡ step_text (turning (state_of s fence))
  text_is = ap (λ (step : Step). step_text step) (sym wants_is)

  pub wants_ok : (result : Result Bool Halt) (a b c : Option (List ℕ)) → Grows a b (reason_line put.key pending)
      → OnOk result (Grows b c (step_text (telling (inputs.Put put) (state_of t fence))))
      → OnOk result (Grows a c (step_text (turning (state_of s fence))))
  wants_ok result a b c first then =
      subst (λ (text : List ℕ). OnOk result (Grows a c text)) text_is
      (ok_then result a b c (reason_line put.key pending) (step_text (telling (inputs.Put put) (state_of t fence))) first then)

  pub wants_err : (result : Result Bool Halt) (a b c : Option (List ℕ)) (k m n : ℕ) → Grows a b (reason_line put.key pending) → k ≤ m
      → IfErr result (λ halt. Halts halt (step_text (telling (inputs.Put put) (state_of t fence))) b c m n)
      → IfErr result (λ halt. Halts halt (step_text (turning (state_of s fence))) a c k n)
  wants_err result a b c k m n first later then =
      subst (λ (text : List ℕ). IfErr result (λ halt. Halts halt text a c k n)) text_is
      (err_then result a b c (reason_line put.key pending) (step_text (telling (inputs.Put put) (state_of t fence))) k m n first later then)
