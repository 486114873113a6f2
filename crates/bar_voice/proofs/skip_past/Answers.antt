use mathlib.Core.Path.{◌≡◌, sym, ap, subst, ◌∙◌}
use native.Mathlib.Omega.{arith}
use Rattle.rules.specs.Voices.{Chord}
use Rattle.bar_voice.specs.Voices.{voice_of, chord_of, Skipped}
use Rattle.bar_voice.proofs.VoiceWalk.{voice_length, voice_get, can_read, past_more}
use Rattle.bar_voice.proofs.skip_past.Goals as goal

pub loop-j-init : goal.loop-j-init
loop-j-init c = c.requires.1

pub voice_chord-c-requires : goal.voice_chord-c-requires
voice_chord-c-requires c = can_read c.requires.0 _ c.loop-j-test.true

pub returns-then-tick-c : goal.returns-then-tick-c
returns-then-tick-c c =
    -- the end that was read is chord j's
    let end_read : c.voice_chord-c.result.end ≡ (chord_of (voice_of c.args.n c.args.work.now c.args.v c.args.len) c.loop-j.j).end =
    ap (λ (d : Chord). d.end)
    (c.voice_chord-c.ensures ∙ sym (voice_get c.args.n c.args.work.now c.args.v c.args.len c.loop-j.j c.loop-j-test.true)) in
    record { past = c.loop-j.invariant; here = λ h. rw end_read at c.if-tick-c.true }

pub loop-j-preserved : goal.loop-j-preserved
loop-j-preserved c =
    let given = c.args in
    let all = voice_length given.n given.work.now given.v given.len in
    -- the end that was read is chord j's
    let end_read : c.voice_chord-c.result.end ≡ (chord_of (voice_of c.args.n c.args.work.now c.args.v c.args.len) c.loop-j.j).end =
    ap (λ (d : Chord). d.end)
    (c.voice_chord-c.ensures ∙ sym (voice_get c.args.n c.args.work.now c.args.v c.args.len c.loop-j.j c.loop-j-test.true)) in
    past_more c.loop-j.invariant (omega arith) (rw end_read at c.if-tick-c.false)

pub returns : goal.returns
returns c =
    let given = c.args in
    let all = voice_length given.n given.work.now given.v given.len in
    let within = c.loop-j.invariant.within in
    let last : c.loop-j.j ≡ c.args.len = omega arith in
    subst (Skipped given.tick (voice_of given.n given.work.now given.v given.len)) last
    (record { past = c.loop-j.invariant; here = λ h. absurd (omega arith) })
