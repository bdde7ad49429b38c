mod GeometryJudged
mod CircuitsJudged
mod LinesJudged
mod CutOffLine
