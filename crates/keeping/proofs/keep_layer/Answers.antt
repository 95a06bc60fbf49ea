-- `keep_layer`. The loop's invariant: the blocks before v are kept and noted (`Along`). Assumes nothing.
use Rattle.keeping.proofs.Layers.{none_kept, one_block}
use Rattle.keeping.proofs.keep_layer.Goals as goal

pub loop-v-init : goal.loop-v-init
loop-v-init c = let a = c.args in none_kept a.labels.now a.notes.now a.m a.n a.d a.prev a.base

pub loop-v-preserved : goal.loop-v-preserved
loop-v-preserved c = let a = c.args in
    let l = c.loop-v in
    let x = c.keep_block in
    one_block a.labels.now a.notes.now a.m a.n a.d a.prev a.base c.requires
    l.labels l.notes l.at l.to l.v l.invariant
    c.loop-v-test.true x.new.labels x.result x.ensures.labels_after x.ensures.noted
