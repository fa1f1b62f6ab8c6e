mod StopsWritten
