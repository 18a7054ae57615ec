-- Each level's word is the byte string of its arm. Assumes nothing.
use Rattle.report.proofs.with_level.Goals as goal

pub returns-in-NN : goal.returns-in-NN
returns-in-NN c = rw c.in-NN.is c.with_words.ensures

pub returns-in-VN : goal.returns-in-VN
returns-in-VN c = rw c.in-VN.is c.with_words-in-VN.ensures

pub returns-in-VVN : goal.returns-in-VVN
returns-in-VVN c = rw c.in-VVN.is c.with_words-in-VVN.ensures

pub returns-in-Network : goal.returns-in-Network
returns-in-Network c = rw c.in-Network.is c.with_words-in-Network.ensures
