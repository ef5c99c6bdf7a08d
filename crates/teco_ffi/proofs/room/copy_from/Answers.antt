use Rattle.teco_ffi.proofs.room.copy_from.Goals as goal

pub returns-clause-room : goal.returns-clause-room
returns-clause-room c = cc
