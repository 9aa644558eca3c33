use Rattle.port_table.proofs.rule.split_off.Given as goal

-- the actor that is split off
abbrev pub ghosts-split_as : goal.ghosts-split_as
ghosts-split_as a = record { actor = a._actor }
