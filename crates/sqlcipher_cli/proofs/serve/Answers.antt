use Rattle.sqlcipher_cli.proofs.serve.Goals as goal

pub returns-clause-usage : goal.returns-clause-usage
returns-clause-usage c = c.serve_files-disk.ensures.usage

pub returns-clause-refused : goal.returns-clause-refused
returns-clause-refused c = c.serve_files-disk.ensures.refused

pub returns-clause-no_usage : goal.returns-clause-no_usage
returns-clause-no_usage c = c.serve_files-disk.ensures.no_usage

pub returns-clause-input_fault : goal.returns-clause-input_fault
returns-clause-input_fault c = c.serve_files-disk.ensures.input_fault

pub returns-clause-entropy_fault : goal.returns-clause-entropy_fault
returns-clause-entropy_fault c = c.serve_files-disk.ensures.entropy_fault
