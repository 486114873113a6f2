use Prim.Native.Nat.{◌<◌, ◌≤◌}
use mathlib.Core.List.{List}
use mathlib.Core.Path.{◌≡◌, sym, ap, ◌∙◌}
use native.Mathlib.Omega.{arith}
use lib.ListN.{length, drop}
use Rattle.rules.specs.Voices.{Chord}
use Rattle.chords.specs.Columns as columns
use Rattle.items.specs.Writing.{quarter}
use Rattle.bar_voice.specs.Voices.{voice_of, chord_of}
use Rattle.bar_voice.proofs.VoiceWalk.{voice_length, voice_get, can_read}
use Rattle.bar_voice.proofs.Sounding.{OnlyRests, ahead_none, ahead_late, ahead_gap, ahead_sounds}
use Rattle.bar_voice.proofs.InBar.{mid_start, mid_heads, mid_keys, mid_rest, mid_end, mid_fits, mid_room, mid_more}
use Rattle.bar_voice.proofs.push_filled.Goals as goal

pub loop-j-init : goal.loop-j-init
loop-j-init c = let pre = c.requires in mid_start _ _ _ _ _ pre.2 pre.1.line pre.3

pub voice_chord-c-requires : goal.voice_chord-c-requires
voice_chord-c-requires c = can_read c.requires.1 _ c.loop-j-test.true

pub overflow_sub-bar : goal.overflow_sub-bar
overflow_sub-bar c = c.loop-j.invariant.ahead.inside

pub push_rests-requires : goal.push_rests-requires
push_rests-requires c =
    -- at chord j of the voice
    let voice : List Chord = voice_of c.args.n c.args.work.now c.args.v c.args.len in
    let inside : c.loop-j.j < length voice = omega (arith, voice_length c.args.n c.args.work.now c.args.v c.args.len, c.loop-j-test.true) in
    let read : columns.chord_of c.voice_chord-c.result ≡ chord_of voice c.loop-j.j =
    c.voice_chord-c.ensures ∙ sym (voice_get c.args.n c.args.work.now c.args.v c.args.len c.loop-j.j c.loop-j-test.true) in
    -- it starts behind the bar
    let only_rests : OnlyRests (quarter c.args.values.now) c.args.bar.start c.args.bar.end (drop c.loop-j.j voice) c.loop-j.tick =
    ahead_late voice c.loop-j.j inside c.loop-j.invariant.ahead _ (rw (ap (λ (d : Chord). d.start) read) at c.if-bar-c.true) in
    let pre = c.requires in
    (pre.0, mid_fits pre.4 c.loop-j.invariant _ (omega arith), mid_rest pre.4 c.loop-j.invariant only_rests)

pub shape_of-heads-then-bar-c : goal.shape_of-heads-then-bar-c
shape_of-heads-then-bar-c c =
    c.push_rests.auto.heads ∙ mid_heads c.requires.4 c.loop-j.invariant

pub shape_of-keys-then-bar-c : goal.shape_of-keys-then-bar-c
shape_of-keys-then-bar-c c =
    c.push_rests.auto.keys ∙ mid_keys c.requires.4 c.loop-j.invariant

pub returns-then-bar-c : goal.returns-then-bar-c
returns-then-bar-c c =
    -- at chord j of the voice
    let voice : List Chord = voice_of c.args.n c.args.work.now c.args.v c.args.len in
    let inside : c.loop-j.j < length voice = omega (arith, voice_length c.args.n c.args.work.now c.args.v c.args.len, c.loop-j-test.true) in
    let read : columns.chord_of c.voice_chord-c.result ≡ chord_of voice c.loop-j.j =
    c.voice_chord-c.ensures ∙ sym (voice_get c.args.n c.args.work.now c.args.v c.args.len c.loop-j.j c.loop-j-test.true) in
    -- it starts behind the bar
    let only_rests : OnlyRests (quarter c.args.values.now) c.args.bar.start c.args.bar.end (drop c.loop-j.j voice) c.loop-j.tick =
    ahead_late voice c.loop-j.j inside c.loop-j.invariant.ahead _ (rw (ap (λ (d : Chord). d.start) read) at c.if-bar-c.true) in
    mid_end c.requires.4 c.loop-j.invariant only_rests c.push_rests.ensures

pub push_gap_and_chord-s-requires : goal.push_gap_and_chord-s-requires
push_gap_and_chord-s-requires c =
    -- at chord j of the voice
    let voice : List Chord = voice_of c.args.n c.args.work.now c.args.v c.args.len in
    let inside : c.loop-j.j < length voice = omega (arith, voice_length c.args.n c.args.work.now c.args.v c.args.len, c.loop-j-test.true) in
    let read : columns.chord_of c.voice_chord-c.result ≡ chord_of voice c.loop-j.j =
    c.voice_chord-c.ensures ∙ sym (voice_get c.args.n c.args.work.now c.args.v c.args.len c.loop-j.j c.loop-j-test.true) in
    -- it starts before the bar's end
    let early : (chord_of voice c.loop-j.j).start < c.args.bar.end = rw (ap (λ (d : Chord). d.start) read) at c.if-bar-c.false in
    let pre = c.requires in
    let at = c.loop-j in (
      pre.0,
      rw read (ahead_sounds voice c.loop-j.j inside at.invariant.ahead early pre.2),
      rw (ap (λ (d : Chord). d.start) read) (ahead_gap voice c.loop-j.j inside at.invariant.ahead),
      at.invariant.few,
      rw read (mid_room pre.4 at.invariant inside early),
    )

pub loop-j-preserved : goal.loop-j-preserved
loop-j-preserved c =
    -- at chord j of the voice
    let voice : List Chord = voice_of c.args.n c.args.work.now c.args.v c.args.len in
    let inside : c.loop-j.j < length voice = omega (arith, voice_length c.args.n c.args.work.now c.args.v c.args.len, c.loop-j-test.true) in
    let read : columns.chord_of c.voice_chord-c.result ≡ chord_of voice c.loop-j.j =
    c.voice_chord-c.ensures ∙ sym (voice_get c.args.n c.args.work.now c.args.v c.args.len c.loop-j.j c.loop-j-test.true) in
    -- it starts before the bar's end
    let early : (chord_of voice c.loop-j.j).start < c.args.bar.end = rw (ap (λ (d : Chord). d.start) read) at c.if-bar-c.false in
    rw (c.min-tick.ensures, ap (λ (d : Chord). d.end) read)
    (mid_more c.requires.4 c.loop-j.invariant inside early
    c.requires.0.some_ticks c.requires.2
    (rw read at c.push_gap_and_chord-s.ensures))

pub overflow_sub-bar-2 : goal.overflow_sub-bar-2
overflow_sub-bar-2 c = c.loop-j.invariant.ahead.inside

pub push_rests-requires-2 : goal.push_rests-requires-2
push_rests-requires-2 c =
    -- no chord is left
    let voice : List Chord = voice_of c.args.n c.args.work.now c.args.v c.args.len in
    let over : length voice ≤ c.loop-j.j = omega (arith, voice_length c.args.n c.args.work.now c.args.v c.args.len, c.loop-j-test.false) in
    let none_left : OnlyRests (quarter c.args.values.now) c.args.bar.start c.args.bar.end (drop c.loop-j.j voice) c.loop-j.tick =
    ahead_none _ _ _ _ voice _ over in
    let pre = c.requires in
    (pre.0, mid_fits pre.4 c.loop-j.invariant _ (omega arith), mid_rest pre.4 c.loop-j.invariant none_left)

pub shape_of-heads : goal.shape_of-heads
shape_of-heads c =
    c.push_rests-2.auto.heads ∙ mid_heads c.requires.4 c.loop-j.invariant

pub shape_of-keys : goal.shape_of-keys
shape_of-keys c =
    c.push_rests-2.auto.keys ∙ mid_keys c.requires.4 c.loop-j.invariant

pub returns : goal.returns
returns c =
    -- no chord is left
    let voice : List Chord = voice_of c.args.n c.args.work.now c.args.v c.args.len in
    let over : length voice ≤ c.loop-j.j = omega (arith, voice_length c.args.n c.args.work.now c.args.v c.args.len, c.loop-j-test.false) in
    let none_left : OnlyRests (quarter c.args.values.now) c.args.bar.start c.args.bar.end (drop c.loop-j.j voice) c.loop-j.tick =
    ahead_none _ _ _ _ voice _ over in
    mid_end c.requires.4 c.loop-j.invariant none_left c.push_rests-2.ensures
