use Rattle.edge_model.specs.Files.{written}
use Rattle.call_memory.proofs.Lists.{put_changed, put_same, on_ok, on_err}
use Rattle.call_memory.proofs.store.write_in.Goals as goal

pub returns-clause-ok : goal.returns-clause-ok
returns-clause-ok c =
    on_ok c.write_file.result
    (put_changed c.args.files.now c.args.number c.index_mut.result.now c.write_file.new.file (written c.args.at c.args.bytes.now) c.requires c.index_mut.ensures.value)
    c.write_file.ensures.ok

pub returns-clause-err : goal.returns-clause-err
returns-clause-err c =
    on_err c.write_file.result (put_same c.args.files.now c.args.number c.index_mut.result.now c.write_file.new.file c.index_mut.ensures.value) c.write_file.ensures.err
