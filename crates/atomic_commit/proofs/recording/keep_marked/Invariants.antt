use Rattle.atomic_commit.proofs.recording.keep_marked.Given as goal

abbrev pub ghost-keep_old : goal.ghost-keep_old
ghost-keep_old g a = g.base
