use Rattle.back_path.proofs.writing.+write_path.Given as goal

-- proposed from what the function passes where it calls itself
abbrev pub decreases-write_path : goal.decreases-write_path
decreases-write_path l = l.d
