-- `read_bar` takes the bar's items and then asks whether they fill it.
use mathlib.Core.List.{List}
use mathlib.Core.Path.{refl, sym, ◌∙◌}
use lib.ListN.{take, drop}
use Rattle.rules.specs.Items.{Item, read_items}
use Rattle.proofread_voices.proofs.Steps.{bar_fails, bar_short, bar_full, full_code}
use Rattle.proofread_voices.proofs.BarItems.{none_there}
use Rattle.proofread_voices.proofs.read_bar.Goals as goal

pub returns-then-is_full : goal.returns-then-is_full
returns-then-is_full c =
    let q = c.requires in
    let a = c.args in
    let t = c.in_ok-r.ensures in
    let is : List Item = take a.count (drop a.first (read_items a.heads.now a.keys.now)) in
    bar_full a.g a.n a.m a.e a.p a.start a.until a.v is a.work.now a.voice _ (λ cs. refl) refl refl refl q.6
    (sym (full_code a.p a.v a.start a.until a.count _ is t.tick (none_there a.heads.now a.keys.now a.first a.count q.8 q.9))
    ∙ sym c.is_full.ensures ∙ c.if-is_full.true)
    t

pub returns-else-is_full : goal.returns-else-is_full
returns-else-is_full c =
    let q = c.requires in
    let a = c.args in
    let t = c.in_ok-r.ensures in
    let is : List Item = take a.count (drop a.first (read_items a.heads.now a.keys.now)) in
    bar_short a.g a.n a.m a.e a.p a.start a.until a.v is a.work.now a.voice _ (λ cs. refl) refl
    (sym (full_code a.p a.v a.start a.until a.count _ is t.tick (none_there a.heads.now a.keys.now a.first a.count q.8 q.9))
    ∙ sym c.is_full.ensures ∙ c.if-is_full.false)
    t

pub returns-in_err-r : goal.returns-in_err-r
returns-in_err-r c =
    let a = c.args in
    rw c.from_residual.ensures
    (bar_fails a.g a.n a.m a.e a.p a.start a.until a.v _ a.work.now a.voice _ (λ cs. refl) refl c.in_err-r.ensures)
