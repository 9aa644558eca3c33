use Rattle.port_table.proofs.rule.make.Given as goal

-- the step that is made
abbrev pub ghosts-make_as : goal.ghosts-make_as
ghosts-make_as a = record { opened = a.table.now.key; actor = a._actor; step = a._step.now }
